-- A device made of the default and no store is `device`, whatever its flash.
use mathlib.Core.Path.{ap, ◌∙◌}
use Rattle.mock_base.specs.declared.config.MockDeviceConfig.{MockDeviceConfig}
use Rattle.mock_base.specs.declared.cells.Variety.TheVariants.{First}
use Rattle.mock.specs.Device.{created, fresh_state}
use Rattle.ffi.proofs.sectors.fresh_device.Goals as goal

pub returns : goal.returns
unfolding created
returns c = c.new.ensures.fresh ∙ ap (λ (d : MockDeviceConfig). fresh_state First d 0) c.default.ensures
