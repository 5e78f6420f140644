-- The published state table and snoop table, by cases. Two cells differ: W that finds EC leaves EM
-- and not EC, since the written word would be lost, and U that finds EC leaves EC and not EM, since
-- nothing was written.
use Rattle.std.specs.Prelude.{ℕ, true, false, Some, None, Option}
use Rattle.protocol.specs.declared.state.State.{State}
use Rattle.protocol.specs.declared.state.State.TheVariants.{I, S, SM, EC, EM}
use Rattle.protocol.specs.declared.command.Action.{Action}
use Rattle.protocol.specs.declared.command.Action.TheVariants.{R, W, DW, RI, RP, LR, UW, U}
use Rattle.protocol.specs.declared.command.BusCommand.{BusCommand}
use Rattle.protocol.specs.declared.command.BusCommand.TheVariants.{F, FI, I as bus_i}
use Rattle.protocol.specs.declared.table.Effect.{Effect}

-- nothing is sent
abbrev pub stays : State → Option Effect
stays left = Some (record { bus = None; lk = false; from_cache = left; from_memory = left })

-- the block is asked for: the state left if a cache supplies it, and if memory does
abbrev pub fetches : BusCommand → State → State → Option Effect
fetches sent supplied loaded =
    Some (record { bus = Some sent; lk = false; from_cache = supplied; from_memory = loaded })

abbrev pub sends : BusCommand → State → Option Effect
sends sent left = fetches sent left left

-- LK goes before the bus command
abbrev pub locking : Option Effect → Option Effect
locking None = None
locking (Some e) = Some (record e { lk = true })

-- none: the command is a machine check
abbrev pub cell_of : Action → State → Option Effect
cell_of R EM = stays EM
cell_of R EC = stays EC
cell_of R SM = stays SM
cell_of R S = stays S
cell_of R I = fetches F S EC
cell_of W EM = stays EM
cell_of W EC = stays EM
cell_of W SM = sends bus_i EM
cell_of W S = sends bus_i EM
cell_of W I = fetches FI EM EM
cell_of DW EM = None
cell_of DW EC = None
cell_of DW SM = None
cell_of DW S = None
cell_of DW I = stays EM
cell_of RI EM = stays EM
cell_of RI EC = stays EC
cell_of RI SM = None
cell_of RI S = None
cell_of RI I = fetches FI EM EC
cell_of RP EM = stays I
cell_of RP EC = stays I
cell_of RP SM = None
cell_of RP S = None
cell_of RP I = fetches FI I I
cell_of LR EM = stays EM
cell_of LR EC = stays EC
cell_of LR SM = locking (sends bus_i EM)
cell_of LR S = locking (sends bus_i EM)
cell_of LR I = locking (fetches FI EM EC)
cell_of UW EM = stays EM
cell_of UW EC = stays EM
cell_of UW SM = None
cell_of UW S = None
cell_of UW I = fetches FI EM EM
cell_of U EM = stays EM
cell_of U EC = stays EC
cell_of U SM = None
cell_of U S = None
cell_of U I = stays I

-- what a copy in another cache becomes
abbrev pub snooped : BusCommand → State → State
snooped F EM = SM
snooped F EC = S
snooped F SM = SM
snooped F S = S
snooped F I = I
snooped FI EM = I
snooped FI EC = I
snooped FI SM = I
snooped FI S = I
snooped FI I = I
snooped bus_i EM = I
snooped bus_i EC = I
snooped bus_i SM = I
snooped bus_i S = I
snooped bus_i I = I

-- the published order of columns and rows; that of columns in the census too
abbrev pub column_for : State → ℕ
column_for EM = 0
column_for EC = 1
column_for SM = 2
column_for S = 3
column_for I = 4

abbrev pub row_for : Action → ℕ
row_for R = 0
row_for W = 1
row_for DW = 2
row_for RI = 3
row_for RP = 4
row_for LR = 5
row_for UW = 6
row_for U = 7

abbrev pub snoop_row_for : BusCommand → ℕ
snoop_row_for F = 0
snoop_row_for FI = 1
snoop_row_for bus_i = 2
