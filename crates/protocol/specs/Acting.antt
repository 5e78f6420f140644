-- What a command acts as, the word that it answers and the words that it leaves in its block.
use Rattle.std.specs.Prelude.{ℕ, ◌%◌, Bool, if◌then◌else◌, not, ◌&&◌, List, [], ◌∷◌, Some, None, Option, ◌==◌, slice_index, slice_set}
use Rattle.protocol.specs.declared.state.State.{State}
use Rattle.protocol.specs.declared.command.Command.{Command}
use Rattle.protocol.specs.declared.command.Command.TheVariants.{R, W, DW, RI, RP, RB, LR, UW, U}
use Rattle.protocol.specs.declared.command.Action.{Action}
use Rattle.protocol.specs.declared.command.Action.TheVariants.{R as as_r, W as as_w, DW as as_dw, RI as as_ri, RP as as_rp, LR as as_lr, UW as as_uw, U as as_u}
use Rattle.protocol.specs.Entries.{valid}

-- a block has four words
abbrev pub offset : ℕ → ℕ
offset address = address % 4

abbrev pub at_start : ℕ → Bool
at_start address = offset address == 0

abbrev pub at_last : ℕ → Bool
at_last address = offset address == 3

abbrev pub acts_as : Command → ℕ → State → Bool → Action
acts_as R address found elsewhere = as_r
acts_as (W word) address found elsewhere = as_w
acts_as (DW word) address found elsewhere = if at_start address then as_dw else as_w
acts_as RI address found elsewhere = as_ri
acts_as RP address found elsewhere = as_rp
acts_as RB address found elsewhere =
    if at_last address then as_rp else if not (valid found) && elsewhere then as_ri else as_r
acts_as LR address found elsewhere = as_lr
acts_as (UW word) address found elsewhere = as_uw
acts_as U address found elsewhere = as_u

-- the word that a command writes
abbrev pub written_by : Command → Option ℕ
written_by R = None
written_by (W word) = Some word
written_by (DW word) = Some word
written_by RI = None
written_by RP = None
written_by RB = None
written_by LR = None
written_by (UW word) = Some word
written_by U = None

-- reading commands answer the addressed word of the block as it was
abbrev pub word_answered : Command → ℕ → List ℕ → ℕ
word_answered R address words = slice_index words (offset address)
word_answered (W word) address words = 0
word_answered (DW word) address words = 0
word_answered RI address words = slice_index words (offset address)
word_answered RP address words = slice_index words (offset address)
word_answered RB address words = slice_index words (offset address)
word_answered LR address words = slice_index words (offset address)
word_answered (UW word) address words = 0
word_answered U address words = 0

-- writing commands set the addressed word; DW at a block's start makes the other three 0
abbrev pub words_left : Command → ℕ → List ℕ → List ℕ
words_left R address words = words
words_left (W word) address words = slice_set words (offset address) word
words_left (DW word) address words =
    if at_start address then word ∷ (0 ∷ (0 ∷ (0 ∷ [])))
    else slice_set words (offset address) word
words_left RI address words = words
words_left RP address words = words
words_left RB address words = words
words_left LR address words = words
words_left (UW word) address words = slice_set words (offset address) word
words_left U address words = words
