-- A run that ended in 28 and the run that resumed it, taken as one.
use Rattle.std.specs.Prelude.{◌+◌}
use Rattle.run_operation.specs.declared.UsbRun.{UsbRun}
use Rattle.run_upload.specs.declared.LoadRun.{LoadRun}

-- answer, record and device of the second, and the steps of both
abbrev pub joined : UsbRun → UsbRun → UsbRun
joined first second =
    record {
      answer = second.answer;
      beside = second.beside;
      operation = second.operation;
      device = second.device;
      steps = first.steps + second.steps;
    }

abbrev pub joined_load : LoadRun → LoadRun → LoadRun
joined_load first second =
    record {
      answer = second.answer;
      steps = first.steps + second.steps;
      upload = second.upload;
      device = second.device;
    }
