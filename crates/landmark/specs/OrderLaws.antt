-- Codes by major and then minor are in a strict order.
use Rattle.std.specs.Prelude.{◌≡◌}
use Rattle.std.specs.declared.cmp.Ordering.TheVariants.{Less, Equal, Greater}
use Rattle.std.proofs.Common.{arith}
use Rattle.std.proofs.lemmas.Bool.Decides.{nat_tests}
use Rattle.landmark.specs.declared.Code.{Code}
use Rattle.landmark.specs.Orders.{major_first}

pub order_same : (c d : Code) → major_first c d ≡ Equal → c ≡ d
order_same c d e =
    let p : c.major ≡ d.major = grind (arith, nat_tests) in
    let q : c.minor ≡ d.minor = grind (arith, nat_tests) in
    λ i. record { major = p i; minor = q i }

pub order_self : (c : Code) → major_first c c ≡ Equal
order_self c = grind (arith, nat_tests)

pub order_mirror : (c d : Code) → major_first c d ≡ Less → major_first d c ≡ Greater
order_mirror c d e = grind (arith, nat_tests)

pub order_back : (c d : Code) → major_first c d ≡ Greater → major_first d c ≡ Less
order_back c d e = grind (arith, nat_tests)

pub order_carries : (c d e : Code) → major_first c d ≡ Less → major_first d e ≡ Less → major_first c e ≡ Less
order_carries c d e p q = grind (arith, nat_tests)
