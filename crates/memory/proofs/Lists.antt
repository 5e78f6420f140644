-- What a dead list is filled with, and what is found in it.
use Rattle.std.proofs.Common.{◌≡◌, ℕ, zero, suc, ◌+◌, ◌<◌, ◌≤◌, eqb, List, [], ◌∷◌, length, get_or, Some, None, Option, refl, ap, ◌∙◌, inl, inr, sym, arith}
use denote.Param.Members.{Mut}
use Rattle.std.specs.Array.{IsFromFnResultFrom}
use Rattle.std.specs.Fn.{Called}
use Rattle.std.specs.List.{list_any, slice_get}
use Rattle.std.specs.Option.{option_eq}
use Rattle.std.proofs.lemmas.Grind.{common_steps}
use Rattle.std.proofs.lemmas.Bool.Decides.{eqb_tells}
use Rattle.std.proofs.lemmas.List.{places, same_lists, get_or_default, length-append, length-map, length-replicate}
use Rattle.std.proofs.lemmas.Option.{gets}
use Rattle.memory.specs.Dead.{listed, filled}

pub any_listed : (block : ℕ) (entries : List (Option ℕ))
    → list_any (λ y. option_eq eqb y (Some block)) entries ≡ listed entries block
any_listed block [] = refl
any_listed block (None ∷ entries) = any_listed block entries
any_listed block (Some dead ∷ entries) = rw (any_listed block entries)

-- what `array::from_fn` makes of a closure that gives h i at i, as long as J holds of it
module _ {F B : Type 0} (g : Mut F (ℕ × Unit {0}) B) (h : ℕ → B) (J : F → Type 0)
    (step : (i : ℕ) (p q : F) (y : B) → J p → Called g p (i, tt) y q → J q × (y ≡ h i)) where
  pub from_fn_at : (f : F) (ys : List B) (i n k : ℕ) (d : B) → J f
      → IsFromFnResultFrom g f ys i n → i ≤ k → k < i + n → get_or ys k d ≡ h k
  from_fn_at f ys i zero k d j r le lt = absurd (omega arith)
  from_fn_at f ys i (suc n) k d j (q, y, at, call, rest) le lt =
      elim (eqb_tells k i) [
        | inl e ↦ ap (λ m. get_or ys m d) e.1 ∙ at.1 d ∙ (step i f q y j call).1 ∙ ap h (sym e.1)
        | inr e ↦
            from_fn_at q ys (i + 1) n k d (step i f q y j call).0 rest (omega arith) (omega arith)
      ]

pub filled_places : (numbers : List ℕ) (blocks : List (Option ℕ))
    → length numbers ≤ 16 → length blocks ≡ 16
    → ((i : ℕ) → i < 16 → get_or blocks i None ≡ slice_get numbers i) → blocks ≡ filled numbers
filled_places numbers blocks few long at =
    same_lists blocks (filled numbers)
    (simp (length-append, length-map, length-replicate) (omega arith))
    (λ k d h. grind (arith, common_steps, gets, places, get_or_default, at k))
