-- What raising ages one by one, and writing a column's ages back, leave in a table.
use Rattle.std.proofs.Common.{◌≡◌, ℕ, zero, suc, ◌+◌, ◌-◌, ◌<◌, List, [], ◌∷◌, ◌++◌, length, map, get_or, take, drop, refl, ap, ◌∙◌, add-one, arith, slice_set}
use borrow.Rule.Slice.PartMut.{post_of}
use Rattle.std.proofs.lemmas.List.{drop-drop}
use Rattle.policy.specs.Ages.{mentioned}

module _ (f : ℕ → ℕ) where
  at_mapped : (xs : List ℕ) (i : ℕ) → get_or (map f (take i xs) ++ drop i xs) i 0 ≡ get_or xs i 0
  at_mapped [] zero = refl
  at_mapped [] (suc i) = refl
  at_mapped (x ∷ xs) zero = refl
  at_mapped (x ∷ xs) (suc i) = at_mapped xs i

  one_more : (xs : List ℕ) (i : ℕ) → i < length xs
      → slice_set (map f (take i xs) ++ drop i xs) i (f (get_or xs i 0))
      ≡ map f (take (suc i) xs) ++ drop (suc i) xs
  one_more [] i h = absurd (omega (arith, h))
  one_more (x ∷ xs) zero h = refl
  one_more (x ∷ xs) (suc i) h = ap (λ ys. f x ∷ ys) (one_more xs i (omega (arith, h)))

  pub mapped_more : (xs ys : List ℕ) (i y : ℕ) → i < length xs
      → ys ≡ map f (take i xs) ++ drop i xs → y ≡ f (get_or ys i 0)
      → slice_set ys i y ≡ map f (take (i + 1) xs) ++ drop (i + 1) xs
  mapped_more xs ys i y h so_far e =
      ap (λ zs. slice_set zs i y) so_far
      ∙ ap (slice_set (map f (take i xs) ++ drop i xs) i)
      (e ∙ ap (λ zs. f (get_or zs i 0)) so_far ∙ ap f (at_mapped xs i))
      ∙ one_more xs i h ∙ (rw add-one refl)

pub column_written : (ages column : List ℕ) (s w way : ℕ)
    → column ≡ mentioned way (take (s + w - s) (drop s ages))
    → take s ages ++ (column ++ post_of s (s + w - s) ages)
    ≡ take s ages ++ (mentioned way (take w (drop s ages)) ++ drop (s + w) ages)
column_written ages column s w way e =
    let n : s + w - s ≡ w = omega arith in
    ap (λ c. take s ages ++ (c ++ post_of s (s + w - s) ages)) e
    ∙ ap (λ k. take s ages ++ (mentioned way (take k (drop s ages)) ++ drop k (drop s ages))) n
    ∙ ap (λ rest. take s ages ++ (mentioned way (take w (drop s ages)) ++ rest)) (drop-drop w s ages)
