-- An operation over sectors that ended well, whatever it moved.
use Rattle.std.specs.Prelude.{ℕ, ◌≡◌, List}
use Rattle.promise.specs.Told.{given}
use Rattle.protocol_codes.specs.declared.Status.TheVariants.{SUCCESS}
use Rattle.protocol_status.specs.StatusBytes.{read_status}
use Rattle.protocol_status.specs.declared.report.CommandStatus.{CommandStatus}
use Rattle.operation_finish.specs.declared.Kind.{Kind}
use Rattle.operation_finish.specs.declared.Kind.TheVariants as kind

-- the two kinds of a sector operation
pub data OverSectors : Kind → Type 0 where
  reading : OverSectors kind.Read
  writing : OverSectors kind.Write

-- the bytes of its status are read as `report`, a success with the tag of its command
pub record Ended (k : Kind) (tag : ℕ) (status : List ℕ) (report : CommandStatus) : Type 0 where
  pub sectors : OverSectors k
  pub read : read_status status ≡ given report
  pub succeeds : report.status ≡ SUCCESS
  pub its_tag : report.tag ≡ tag
