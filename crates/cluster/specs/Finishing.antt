-- What a done command leaves and answers.
use Rattle.std.specs.Prelude.{ℕ, if◌then◌else◌, List, is_some, Some, None, Option, slice_index_or, slice_set}
use Rattle.protocol.specs.declared.answer.Completion.{Completion}
use Rattle.protocol.specs.declared.command.BusCommand.{BusCommand}
use Rattle.protocol.specs.declared.line.Line.{Line}
use Rattle.protocol.specs.declared.lock.LockEntry.{LockEntry}
use Rattle.protocol.specs.declared.measures.Measures.{Measures}
use Rattle.protocol.specs.Acting.{word_answered, words_left}
use Rattle.protocol.specs.Lines.{in_state}
use Rattle.cluster.specs.declared.case.Case.{Case}
use Rattle.cluster.specs.declared.cluster.Processor.{Processor}
use Rattle.cluster.specs.declared.supply.Supply.{Supply}
use Rattle.cluster.specs.declared.ways.Taken.{Taken}
use Rattle.cluster.specs.Cases.{own_place, by_turn}
use Rattle.cluster.specs.Doing.{takes_way, state_left, cycles_for}
use Rattle.cluster.specs.Making.{resting}
use Rattle.cluster.specs.Settling.{ul_sent, woken_by}
use Rattle.cluster.specs.Snooping.{others_snooped}
use Rattle.cluster.specs.Waiting.{turn_raised}
use Rattle.cluster.specs.Ways.{taken_way}

-- the way that the command takes, if it takes one
abbrev pub way_taken : Measures → List Processor → List Line → Case → Option Taken
way_taken m ps lines c =
    let turn = (slice_index_or ps c.processor resting).turn in
    if takes_way c then Some (taken_way m lines c.processor c.block turn) else None

abbrev pub bus_seen : Measures → Option BusCommand → ℕ → ℕ → List Line → List Line
bus_seen m None asking block lines = lines
bus_seen m (Some bus) asking block lines = others_snooped m bus asking block lines

abbrev pub placed : Option ℕ → Line → List Line → List Line
placed None line lines = lines
placed (Some place) line lines = slice_set lines place line

-- the own copy after the command; a line that becomes I is blank
abbrev pub copy_left : Case → Supply → Line
copy_left c s =
    let left = state_left c.effect s.from in
    let words = words_left c.command c.address s.words in
    in_state (record { state = left; block = c.block; words = words }) left

abbrev pub lines_after : Measures → List Line → Case → Supply → Option Taken → List Line
lines_after m lines c s taken =
    placed (own_place c.place taken) (copy_left c s)
    (bus_seen m c.effect.bus c.processor c.block lines)

abbrev pub turns_after : Measures → List Processor → Case → Option Taken → List Processor
turns_after m ps c taken = if by_turn taken then turn_raised m.ways ps c.processor else ps

abbrev pub processors_after : Measures → List Processor → List LockEntry → Case → Option Taken
    → List Processor
processors_after m ps locks c taken =
    woken_by (ul_sent c.command locks c.entry) c.block (turns_after m ps c taken)

abbrev pub completed : Measures → List LockEntry → Case → Supply → Option ℕ → Completion
completed m locks c s swapped =
    let ul = ul_sent c.command locks c.entry in
    record {
      word = word_answered c.command c.address s.words;
      found = c.found;
      left = state_left c.effect s.from;
      bus = c.effect.bus;
      lk = c.effect.lk;
      ul = ul;
      supplier = s.from;
      swapped_out = swapped;
      cycles = cycles_for m.costs s.from c.effect.bus (is_some swapped) ul;
    }
