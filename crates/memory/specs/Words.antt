-- The memory over a table of words.
use Rattle.std.specs.Prelude.{ℕ, ◌+◌, ◌*◌, ◌/◌, ◌%◌, ◌≤◌, Bool, true, if◌then◌else◌, ◌&&◌, List, [], ◌∷◌, length, ◌==◌, nat_le, slice_index, refl}
use Rattle.std.proofs.Common.{arith, leb-true}
use Rattle.std.proofs.lemmas.Bool.{and_parts, cond_both}
use Rattle.memory.specs.Meaning.{Mem, Lawful}

abbrev pub fit : ℕ → Bool
fit n = n % 4 == 0 && nat_le n 4194304

-- a table of unfit length has no blocks
abbrev pub blocks_in : ℕ → ℕ
blocks_in n = if fit n then n / 4 else 0

abbrev pub block_in : List ℕ → ℕ → List ℕ
block_in ws block =
    slice_index ws (block * 4) ∷ (slice_index ws (block * 4 + 1)
    ∷ (slice_index ws (block * 4 + 2) ∷ (slice_index ws (block * 4 + 3) ∷ [])))

abbrev pub table_of : List ℕ → Mem
table_of ws = record { count = blocks_in (length ws); live = λ block. true; words = block_in ws }

pub lawful_table : (ws : List ℕ) → Lawful (table_of ws)
lawful_table ws =
    let n = length ws in
    record {
      bounded =
          cond_both (fit n) (n / 4) 0 (λ count. count ≤ 1048576)
          (λ h.
          let few : n ≤ 4194304
          = leb-true n 4194304 (and_parts (n % 4 == 0) (nat_le n 4194304) h).1 in omega arith)
          (λ h. omega arith);
      four = λ block. refl;
    }
