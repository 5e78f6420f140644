use Rattle.std.proofs.Common.{refl}
use lib.Count.{ones, ones_in}
use Rattle.cluster.proofs.worked.worked_cases_stand.Goals as goal

pub returns : goal.returns
unfolding ones ones_in
returns c =
    record {
      end_of_memory = refl;
      written_then_shared = refl;
      supplier_keeps_sm = refl;
      swapped_out = refl;
      direct_write = refl;
      direct_write_twice = refl;
      waits_and_wakes = refl;
      unlocked_clean = refl;
      entries_run_out = refl;
      purged = refl;
      columns_256 = refl;
      columns_512 = refl;
      columns_3 = refl;
    }
