-- The copies of each block in a line table.
use Rattle.std.specs.Prelude.{ℕ, Bool, if◌then◌else◌, ◌&&◌, List, map, count_by, Some, None, Option, ◌==◌}
use Rattle.std.specs.List.{fold, range_with_len}
use Rattle.protocol.specs.declared.line.Line.{Line}
use Rattle.protocol.specs.Entries.{valid}
use Rattle.stats.specs.Tallying.{one_more_at}

abbrev pub is_copy_of : ℕ → Line → Bool
is_copy_of block line = valid line.state && line.block == block

-- the valid lines of the whole table that hold the block
abbrev pub copies_of : List Line → ℕ → ℕ
copies_of lines block = count_by (is_copy_of block) lines

-- how many of so many blocks, from 0, have exactly so many copies
abbrev pub blocks_with : List Line → ℕ → ℕ → ℕ
blocks_with lines blocks copies =
    count_by (λ block. copies_of lines block == copies) (range_with_len 0 blocks)

-- with 0, 1, .. 8 copies
unfoldable pub blocks_by_copies : List Line → ℕ → List ℕ
blocks_by_copies lines blocks = map (blocks_with lines blocks) (range_with_len 0 9)

-- the block that a valid line holds
abbrev pub copy_in : Line → Option ℕ
copy_in line = if valid line.state then Some line.block else None

-- each element counted at its place
abbrev pub all_counted : {X : Type 0} → (X → Option ℕ) → List ℕ → List X → List ℕ
all_counted place counts xs = fold (λ t x. one_more_at t (place x)) counts xs
