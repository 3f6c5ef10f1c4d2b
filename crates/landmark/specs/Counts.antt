-- The count kind keeps the laws.
use Rattle.std.specs.Prelude.{◌≡◌, ℕ, ◌+◌, ◌<◌, Bool, List, [], ◌∷◌, length, refl}
use Rattle.std.specs.declared.cmp.Ordering.TheVariants.{Less}
use Rattle.std.proofs.Common.{sym, ap, ◌∙◌, arith}
use Rattle.std.proofs.lemmas.Bool.Decides.{nat_tests}
use Rattle.landmark.specs.declared.Code.{Code}
use Rattle.landmark.specs.Markings.{LandmarkLaws, Move, marked}
use Rattle.landmark.specs.Orders.{major_first}
use Rattle.landmark.specs.Count.{counting}
use Rattle.landmark.specs.OrderLaws.{order_same, order_self, order_mirror, order_back, order_carries}

-- a count that has not come to its end rises by one
count_climbs : (c : Code) (ms : List Move) (q : ℕ) (t : Bool) → c.major ≡ 0 → c.minor + length ms + 1 < 4294967296 → major_first (marked counting c ms) (counting.after (marked counting c ms) q t) ≡ Less
count_climbs c [] q t e b = grind (arith, nat_tests)
count_climbs c (m ∷ ms) q t e b = count_climbs (counting.after c m.0 m.1) ms q t refl (omega arith)

pub counting_laws : LandmarkLaws counting
counting_laws = record {
  byte_fits = omega arith;
  has_fits = λ c h. grind (arith, nat_tests);
  start_has = λ p h. refl;
  after_has = λ c p t h l. grind (arith, nat_tests);
  same_is = λ c d h k. (order_same c d, λ e. ap (major_first c) (sym e) ∙ order_self c);
  mirrored = λ c d h k. (order_mirror c d, order_back c d);
  carries = λ c d e h k l p q. order_carries c d e p q;
  climbs = λ p ms q t h k l. count_climbs (record { major = 0; minor = 0 }) ms q t refl (omega arith);
}
