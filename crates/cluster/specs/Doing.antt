-- What a command not refused with 2 to 10 does: lock hit, the block's words, swap-out, cycles.
use Rattle.std.specs.Prelude.{ℕ, ◌+◌, Bool, true, false, if◌then◌else◌, not, ◌&&◌, List, Some, None, Ok, Err, Option, Result, slice_index_or}
use Rattle.protocol.specs.declared.answer.Supplier.{Supplier}
use Rattle.protocol.specs.declared.answer.Supplier.TheVariants.{Memory, Cache}
use Rattle.protocol.specs.declared.command.Action.{Action}
use Rattle.protocol.specs.declared.command.Action.TheVariants.{R, W, DW, RI, RP, LR, UW, U}
use Rattle.protocol.specs.declared.command.BusCommand.{BusCommand}
use Rattle.protocol.specs.declared.command.BusCommand.TheVariants.{F, FI, I}
use Rattle.protocol.specs.declared.line.Line.{Line}
use Rattle.protocol.specs.declared.measures.Costs.{Costs}
use Rattle.protocol.specs.declared.measures.Measures.{Measures}
use Rattle.protocol.specs.declared.refusal.Direction.TheVariants.{Read, Write}
use Rattle.protocol.specs.declared.refusal.Refusal.{Refusal}
use Rattle.protocol.specs.declared.refusal.Refusal.TheVariants.{Memory as RefusedByMemory}
use Rattle.protocol.specs.declared.state.State.{State}
use Rattle.protocol.specs.declared.table.Effect.{Effect}
use Rattle.protocol.specs.Entries.{valid, modified}
use Rattle.protocol.specs.Lines.{no_line}
use Rattle.memory.specs.Meaning.{Mem, grants, written}
use Rattle.cluster.specs.declared.case.Case.{Case}
use Rattle.cluster.specs.declared.supply.Supply.{Supply}
use Rattle.cluster.specs.declared.ways.Taken.{Taken}
use Rattle.cluster.specs.Copies.{line_of, line_at}

-- F and FI ask for the block
abbrev pub asks_for_block : Option BusCommand → Bool
asks_for_block None = false
asks_for_block (Some F) = true
asks_for_block (Some FI) = true
asks_for_block (Some I) = false

abbrev pub invalidates : Option BusCommand → Bool
invalidates None = false
invalidates (Some F) = false
invalidates (Some FI) = false
invalidates (Some I) = true

-- where F, FI or LK is sent, another processor's lock in the block makes the command wait
abbrev pub lock_hit : Case → Option ℕ
lock_hit c =
    if asks_for_block c.effect.bus then c.holder
    else if c.effect.lk then c.holder
    else None

-- every command that found I takes a way, except U
abbrev pub is_unlock : Action → Bool
is_unlock R = false
is_unlock W = false
is_unlock DW = false
is_unlock RI = false
is_unlock RP = false
is_unlock LR = false
is_unlock UW = false
is_unlock U = true

abbrev pub takes_way : Case → Bool
takes_way c = not (is_unlock c.action) && not (valid c.found)

-- the lowest other cache supplies the block, without one memory does
abbrev pub supplied_by : Measures → List Line → Mem → ℕ → Option ℕ → Result Supply Refusal
supplied_by m lines mem block (Some q) =
    Ok (record { words = (line_at lines (line_of m lines q block)).words; from = Some (Cache q) })
supplied_by m lines mem block None =
    if grants mem block then Ok (record { words = mem.words block; from = Some Memory })
    else Err (RefusedByMemory block Read)

abbrev pub supplied : Measures → List Line → Mem → Case → Result Supply Refusal
supplied m lines mem c =
    if asks_for_block c.effect.bus then supplied_by m lines mem c.block c.copy
    else Ok (record { words = (line_at lines c.place).words; from = None })

abbrev pub state_left : Effect → Option Supplier → State
state_left e None = e.from_memory
state_left e (Some Memory) = e.from_memory
state_left e (Some (Cache q)) = e.from_cache

-- the victim, if it is modified
abbrev pub victim_of : List Line → Option Taken → Option Line
victim_of lines None = None
victim_of lines (Some way) =
    let line = slice_index_or lines way.place no_line in
    if modified line.state then Some line else None

abbrev pub swapped_out : Mem → Option Line → Result (Option ℕ) Refusal
swapped_out mem None = Ok None
swapped_out mem (Some line) =
    if grants mem line.block then Ok (Some line.block) else Err (RefusedByMemory line.block Write)

abbrev pub memory_after : Mem → Option Line → Mem
memory_after mem None = mem
memory_after mem (Some line) = written mem line.block line.words

abbrev pub supply_cost : Costs → Option Supplier → ℕ
supply_cost c None = 0
supply_cost c (Some Memory) = c.swap_in
supply_cost c (Some (Cache q)) = c.transfer

-- what took place: swap-out, transfer or swap-in, invalidation, lock signal
abbrev pub cycles_for : Costs → Option Supplier → Option BusCommand → Bool → Bool → ℕ
cycles_for c from bus swapped ul =
    (if swapped then c.swap_out else 0)
    + supply_cost c from
    + (if invalidates bus then c.invalidation else 0)
    + (if ul then c.lock_signal else 0)
