-- What the private functions make: an answer with the record beside it.
use Rattle.maskrom.specs.declared.MaskRomOperation.{MaskRomOperation}
use Rattle.maskrom.specs.declared.WholeUpload.{WholeUpload}
use Rattle.maskrom.specs.declared.PartStepped.{PartStepped}
use Rattle.maskrom.specs.declared.CloseStepped.{CloseStepped}
use Rattle.maskrom.specs.declared.WholeStepped.{WholeStepped}
use Rattle.std.specs.Prelude.{Result}
use Rattle.maskrom.specs.declared.PartStep.{PartStep}
use Rattle.maskrom.specs.declared.PartError.{PartError}
use Rattle.maskrom.specs.declared.UploadStep.{UploadStep}
use Rattle.maskrom.specs.declared.UploadError.{UploadError}

abbrev pub parted : Result PartStep PartError → MaskRomOperation → PartStepped
parted step m = record { step = step; next = m }

abbrev pub closed_with : Result UploadStep UploadError → MaskRomOperation → CloseStepped
closed_with step m = record { step = step; next = m }

abbrev pub stepped_with : Result UploadStep UploadError → WholeUpload → WholeStepped
stepped_with step u = record { step = step; next = u }
