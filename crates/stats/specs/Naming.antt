-- The numbers of a run under their names.
use Rattle.std.specs.Prelude.{ℕ, ◌+◌, ◌*◌, List, [], ◌∷◌, ◌++◌, codes, map, min, slice_index, slice_index_or}
use Rattle.std.specs.List.{flat_map, range_with_len}
use Rattle.std.specs.String.{string_bytes}
use Rattle.stats.specs.declared.named.Named.{Named}
use Rattle.stats.specs.declared.statistics.Statistics.{Statistics}
use Rattle.stats.specs.declared.tally.Causes.{Causes}
use Rattle.stats.specs.declared.tally.Tally.{Tally}

-- a name, in bytes, and its number
pub record Entry : Type 0 where
  pub name : List ℕ
  pub value : ℕ

abbrev pub entry : List ℕ → ℕ → Entry
entry name value = record { name = name; value = value }

abbrev pub entries : List Named → List Entry
entries list = map (λ n. entry (string_bytes n.name) n.value) list

abbrev pub digit_of : ℕ → List ℕ
digit_of n = (48 + n) ∷ []

abbrev pub command_names : List (List ℕ)
command_names =
    codes "R" ∷ (codes "W" ∷ (codes "DW" ∷ (codes "RI" ∷ (codes "RP" ∷ (codes "RB" ∷ (codes "LR"
    ∷ (codes "UW" ∷ (codes "U" ∷ []))))))))

-- the kind of answer, the processor and the command, with points between
abbrev pub answer_name : List ℕ → ℕ → ℕ → List ℕ
answer_name kind processor command =
    (kind ++ (codes "." ++ digit_of processor))
    ++ (codes "." ++ slice_index_or command_names command [])

abbrev pub answers_of : Tally → ℕ → ℕ → List Entry
answers_of t processor command =
    let cell = processor * 9 + command in
    entry (answer_name (codes "done") processor command) (slice_index t.done cell)
    ∷ (entry (answer_name (codes "waiting") processor command) (slice_index t.waiting cell)
    ∷ (entry (answer_name (codes "refused") processor command) (slice_index t.refused cell) ∷ []))

abbrev pub processor_of : Tally → ℕ → List Entry
processor_of t processor = flat_map (answers_of t processor) (range_with_len 0 9)

abbrev pub processors_of : Tally → ℕ → List Entry
processors_of t processors = flat_map (processor_of t) (range_with_len 0 processors)

abbrev pub done_of : Tally → List Entry
done_of t =
    entry (codes "hits") t.hits
    ∷ (entry (codes "misses") t.misses
    ∷ (entry (codes "from_cache") t.from_cache
    ∷ (entry (codes "from_memory") t.from_memory
    ∷ (entry (codes "swap_outs") t.swap_outs
    ∷ (entry (codes "bus.F") t.sent_f
    ∷ (entry (codes "bus.FI") t.sent_fi
    ∷ (entry (codes "bus.I") t.sent_i
    ∷ (entry (codes "bus.LK") t.sent_lk
    ∷ (entry (codes "bus.UL") t.sent_ul ∷ [])))))))))

abbrev pub cycles_of : Causes → List Entry
cycles_of c =
    entry (codes "cycles.swap_in") c.swap_in
    ∷ (entry (codes "cycles.transfer") c.transfer
    ∷ (entry (codes "cycles.swap_out") c.swap_out
    ∷ (entry (codes "cycles.invalidation") c.invalidation
    ∷ (entry (codes "cycles.lock_signal") c.lock_signal ∷ []))))

abbrev pub locks_of : Tally → List Entry
locks_of t =
    entry (codes "lr_hits") t.lr_hits
    ∷ (entry (codes "lr_hits_exclusive") t.exclusive_lr_hits
    ∷ (entry (codes "releases") t.releases
    ∷ (entry (codes "releases_unwaited") t.unwaited_releases ∷ [])))

abbrev pub refusals_of : List ℕ → List Entry
refusals_of refusals =
    entry (codes "refusals.03") (slice_index refusals 3)
    ∷ (entry (codes "refusals.04") (slice_index refusals 4)
    ∷ (entry (codes "refusals.05") (slice_index refusals 5)
    ∷ (entry (codes "refusals.06") (slice_index refusals 6)
    ∷ (entry (codes "refusals.07") (slice_index refusals 7)
    ∷ (entry (codes "refusals.08") (slice_index refusals 8)
    ∷ (entry (codes "refusals.09") (slice_index refusals 9)
    ∷ (entry (codes "refusals.10") (slice_index refusals 10)
    ∷ (entry (codes "refusals.11") (slice_index refusals 11) ∷ []))))))))

abbrev pub run_of : Statistics → List Entry
run_of s =
    entry (codes "processors") s.processors
    ∷ (entry (codes "steps") s.summary.steps
    ∷ (entry (codes "cycles") s.summary.cycles
    ∷ (entry (codes "left") s.summary.left ∷ [])))

abbrev pub end_of : Statistics → List Entry
end_of s =
    entry (codes "lines.EM") (slice_index s.lines 0)
    ∷ (entry (codes "lines.EC") (slice_index s.lines 1)
    ∷ (entry (codes "lines.SM") (slice_index s.lines 2)
    ∷ (entry (codes "lines.S") (slice_index s.lines 3)
    ∷ (entry (codes "lines.I") (slice_index s.lines 4)
    ∷ (entry (codes "copies.0") (slice_index s.copies 0)
    ∷ (entry (codes "copies.1") (slice_index s.copies 1)
    ∷ (entry (codes "copies.2") (slice_index s.copies 2)
    ∷ (entry (codes "copies.3") (slice_index s.copies 3)
    ∷ (entry (codes "copies.4") (slice_index s.copies 4)
    ∷ (entry (codes "copies.5") (slice_index s.copies 5)
    ∷ (entry (codes "copies.6") (slice_index s.copies 6)
    ∷ (entry (codes "copies.7") (slice_index s.copies 7)
    ∷ (entry (codes "copies.8") (slice_index s.copies 8) ∷ [])))))))))))))

-- the numbers of a run in their order; a cluster has at most eight processors
abbrev pub numbers_of : Statistics → List Entry
numbers_of s =
    run_of s ++ processors_of s.tally (min s.processors 8) ++ done_of s.tally ++ cycles_of s.tally.cycles
    ++ locks_of s.tally ++ refusals_of s.tally.refusals ++ end_of s
