-- Entries put one after another.
use Rattle.std.proofs.Common.{◌≡◌, ℕ, zero, suc, ◌+◌, List, [], ◌∷◌, ◌++◌, sym, ap, ◌∙◌, add-zero, arith}
use Rattle.std.specs.List.{flat_map, range_with_len}
use Rattle.std.proofs.lemmas.List.{flat_map_more}
use Rattle.stats.specs.Naming.{Entry}

range_more : (a n : ℕ) → range_with_len a (suc n) ≡ range_with_len a n ++ (a + n) ∷ []
range_more a zero = ap (λ x. x ∷ []) (sym (add-zero a))
range_more a (suc n) =
    let next : a + 1 + n ≡ a + suc n = omega arith in
    ap (λ l. a ∷ l) (range_more (a + 1) n ∙ ap (λ x. range_with_len (a + 1) n ++ x ∷ []) next)

pub one_more_of : (f : ℕ → List Entry) (before : List Entry) (n : ℕ)
    → (before ++ flat_map f (range_with_len 0 n)) ++ f n ≡ before ++ flat_map f (range_with_len 0 (n + 1))
one_more_of f before n =
    let first : 0 + n ≡ n = omega arith in
    let one : suc n ≡ n + 1 = omega arith in
    flat_map_more f before (range_with_len 0 n) n
    ∙ ap (λ l. before ++ flat_map f l)
    (sym (range_more 0 n ∙ ap (λ x. range_with_len 0 n ++ x ∷ []) first) ∙ ap (range_with_len 0) one)
