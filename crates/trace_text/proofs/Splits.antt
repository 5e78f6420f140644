-- Where some bytes are split.
use Rattle.std.proofs.Common.{◌≡◌, ℕ, suc, ◌+◌, ◌<◌, Bool, true, false, cond, eqb, List, [], ◌∷◌, length, take, drop, refl, ap, ◌∙◌, arith}
use Rattle.trace_text.specs.Parts.{in_front, parts, place_of}

module _ (separator : ℕ) where
  abbrev split_at : ℕ → List ℕ → List (List ℕ)
  split_at place bytes = take place bytes ∷ parts separator (drop (suc place) bytes)

  -- a byte in front of the parts is in the first of them
  fronted : (first : ℕ) (bytes : List ℕ)
      → in_front first (parts separator bytes) ≡ split_at (suc (place_of separator bytes)) (first ∷ bytes)
  fronted first [] = refl
  fronted first (byte ∷ bytes) =
      let place = place_of separator bytes in
      let later = fronted byte bytes in
      let split : Bool → List (List ℕ)
      = λ v. cond v ([] ∷ parts separator bytes) (in_front byte (parts separator bytes)) in
      elim (eqb byte separator) as (λ v.
      in_front first (split v) ≡ split_at (suc (cond v 0 (suc place))) (first ∷ (byte ∷ bytes)))
      [ true ↦ refl | false ↦ ap (in_front first) later ]

  parts_cut : (byte : ℕ) (bytes : List ℕ)
      → parts separator (byte ∷ bytes) ≡ split_at (place_of separator (byte ∷ bytes)) (byte ∷ bytes)
  parts_cut byte bytes =
      let place = place_of separator bytes in
      let split : Bool → List (List ℕ)
      = λ v. cond v ([] ∷ parts separator bytes) (in_front byte (parts separator bytes)) in
      elim (eqb byte separator) as (λ v. split v ≡ split_at (cond v 0 (suc place)) (byte ∷ bytes))
      [ true ↦ refl | false ↦ fronted byte bytes ]

  -- up to the separator, and from behind it
  pub parts_split : (n : ℕ) (bytes : List ℕ) → 0 < length bytes → n ≡ place_of separator bytes + 1
      → parts separator bytes ≡ take (place_of separator bytes) bytes ∷ parts separator (drop n bytes)
  parts_split n [] h e = absurd (omega arith)
  parts_split n (byte ∷ bytes) h e =
      let place = place_of separator (byte ∷ bytes) in
      let on : suc place ≡ n = omega arith in
      parts_cut byte bytes ∙ ap (λ m. take place (byte ∷ bytes) ∷ parts separator (drop m (byte ∷ bytes))) on
