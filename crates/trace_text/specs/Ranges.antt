-- Numbers that fit their bits.
use Rattle.std.specs.Prelude.{◌<◌}
use Rattle.trace.specs.declared.record.Record.{Record}
use Rattle.trace.specs.Records.{data_of}

-- the numbers of a record have 32 bits, and its processor 8
pub record InRange (r : Record) : Type 0 where
  pub stamp : r.stamp < 4294967296
  pub processor : r.request.processor < 256
  pub address : r.request.address < 4294967296
  pub word : data_of r.request.command < 4294967296
