-- The branch kind keeps the laws.
use Rattle.std.specs.Prelude.{◌≡◌, ℕ, ◌+◌, ◌<◌, min, Bool, true, false, cond, ◌⊎◌, List, [], ◌∷◌, ◌++◌, length, refl}
use Rattle.std.specs.declared.cmp.Ordering.TheVariants.{Less}
use Rattle.std.proofs.Common.{sym, ap, ◌∙◌, ⊎_elim, arith}
use Rattle.std.proofs.Math.Bridge.{le_prop}
use Rattle.std.proofs.lemmas.Bool.Decides.{nat_tests}
use Rattle.landmark.specs.declared.Code.{Code}
use Rattle.landmark.specs.Markings.{LandmarkLaws, Climbs, Move, marked}
use Rattle.landmark.specs.Orders.{major_first}
use Rattle.landmark.specs.Branch.{branching}
use Rattle.landmark.specs.OrderLaws.{order_same, order_self, order_mirror, order_back, order_carries}

after_climbs : (c : Code) (p q : ℕ) (t : Bool) → c.minor ≡ p → c.major + 1 < 4294967296 → ∥ (t ≡ true) ⊎ (p < q) ∥₁ → major_first c (branching.after c q t) ≡ Less
after_climbs c p q true e b h = grind (arith, nat_tests)
after_climbs c p q false e b h =
    let l : p < q = ∥∥₁_rec le_prop (⊎_elim (λ z. absurd (let y : ◌≡◌ {A = ℕ} 0 1 = cc in omega arith)) (λ z. z)) h in
    grind (arith, nat_tests)

climbs_from : (c : Code) (p : ℕ) (ms : List Move) (q : ℕ) (t : Bool) → c.minor ≡ p → c.major + length ms + 1 < 4294967296 → Climbs p (ms ++ ((q, t) ∷ [])) → major_first (marked branching c ms) (branching.after (marked branching c ms) q t) ≡ Less
climbs_from c p [] q t e b h = after_climbs c p q t e (omega arith) h.0.0
climbs_from c p (m ∷ ms) q t e b h = climbs_from (branching.after c m.0 m.1) m.0 ms q t refl (bound m.1) h.1
  where
    bound : (t : Bool) → cond t (min (c.major + 1) 4294967295) c.major + length ms + 1 < 4294967296
    bound true = omega arith
    bound false = omega arith

has_after : (c : Code) (p : ℕ) (t : Bool) → branching.has c ≡ true → p < 4294967296 → branching.has (branching.after c p t) ≡ true
has_after c p true h l = grind (arith, nat_tests)
has_after c p false h l = grind (arith, nat_tests)

pub branching_laws : LandmarkLaws branching
branching_laws = record {
  byte_fits = omega arith;
  has_fits = λ c h. grind (arith, nat_tests);
  start_has = λ p h. grind (arith, nat_tests);
  after_has = has_after;
  same_is = λ c d h k. (order_same c d, λ e. ap (major_first c) (sym e) ∙ order_self c);
  mirrored = λ c d h k. (order_mirror c d, order_back c d);
  carries = λ c d e h k l p q. order_carries c d e p q;
  climbs = λ p ms q t h k l. climbs_from (record { major = 0; minor = p }) p ms q t refl (omega arith) k;
}
