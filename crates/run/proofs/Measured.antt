-- The listing's measures are lawful.
use Rattle.std.proofs.Common.{◌≡◌, ℕ, ◌≤◌, true, cond, is_ok, Ok, Err, Result, refl, arith}
use lib.Count.{ones, ones_in}
use Rattle.std.proofs.lemmas.Bool.Decides.{nat_tests}
use Rattle.protocol.specs.declared.geometry.Geometry.{Geometry}
use Rattle.protocol.specs.declared.measures.Measures.{Measures}
use Rattle.protocol.specs.declared.refusal.Refusal.{Refusal}
use Rattle.run.specs.Board.{listing_measures}
use Rattle.protocol.specs.Limits.{lawful, measured, power_of_two}

sixteen : power_of_two 16 ≡ true
unfolding ones ones_in
sixteen = refl

pub listing_lawful : (p : ℕ) → 1 ≤ p → p ≤ 8 → lawful (listing_measures p) ≡ true
listing_lawful p low high = grind (arith, nat_tests, sixteen)

made_ok : (r : Result Geometry Refusal) (m : Measures) → measured r ≡ Ok m → is_ok r ≡ true
made_ok (Ok g) m e = refl
made_ok (Err refusal) m e = absurd (cc)

pub geometry_made : (r : Result Geometry Refusal) (m : Measures) (refusal : Refusal)
    → measured r ≡ cond (lawful m) (Ok m) (Err refusal) → lawful m ≡ true → is_ok r ≡ true
geometry_made r m refusal e h = made_ok r m (rw h at e)
