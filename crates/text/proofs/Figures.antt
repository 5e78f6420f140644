-- Digits written from the last to the first.
use Rattle.std.proofs.Common.{◌≡◌, ℕ, suc, ◌+◌, ◌-◌, ◌/◌, ◌%◌, ◌<◌, ◌≤◌, List, [], ◌∷◌, ◌++◌, length, take, set, reverse, sym, refl, ap, ◌∙◌, append_assoc, arith}
use Rattle.std.proofs.lemmas.List.{reverse-append, take_all, take_more_set}
use Rattle.text.specs.Digits.{digit_of, fixed}

module _ (base : ℕ) where
  pub one_more : (w k rest : ℕ) (out : List ℕ) (d : ℕ) → k < w → length out ≡ w
      → d ≡ digit_of (rest % base)
      → fixed base (w - (k + 1)) (rest / base) ++ reverse (take (k + 1) (set out k d))
      ≡ fixed base (w - k) rest ++ reverse (take k out)
  unfolding fixed
  one_more w k rest out d room long e =
      let m = w - (k + 1) in
      let back : w - k ≡ suc m = omega (arith, room) in
      let next : take (k + 1) (set out k d) ≡ take k out ++ (d ∷ [])
      = take_more_set out k d (omega (arith, room, long)) in
      ap (λ ys. fixed base m (rest / base) ++ reverse ys) next
      ∙ ap (λ ys. fixed base m (rest / base) ++ ys) (reverse-append (take k out) (d ∷ []))
      ∙ ap (λ x. fixed base m (rest / base) ++ (x ∷ reverse (take k out))) e
      ∙ sym (append_assoc (fixed base m (rest / base)) (digit_of (rest % base) ∷ [])
      (reverse (take k out)))
      ∙ ap (λ n. fixed base n rest ++ reverse (take k out)) (sym back)

  pub no_more : (w k rest : ℕ) (out : List ℕ) → w ≤ k → length out ≡ w
      → reverse out ≡ fixed base (w - k) rest ++ reverse (take k out)
  unfolding fixed
  no_more w k rest out done long =
      let none : w - k ≡ 0 = omega (arith, done) in
      let all : take k out ≡ out = take_all k out (omega (arith, done, long)) in
      rw (none, all) refl
