-- A fresh device of the default configuration, and nothing counted yet; the flash by what the device answers.
use Rattle.std.proofs.Common.{◌≡◌, ℕ, length, ap, ◌∙◌}
use Rattle.mock_base.specs.declared.config.MockDeviceConfig.{MockDeviceConfig}
use Rattle.mock.specs.declared.device.MockState.{MockState}
use Rattle.mock.specs.declared.device.MockStep.{MockStep}
use Rattle.mock_base.specs.declared.cells.Variety.TheVariants.{First}
use Rattle.promise.specs.Rules.{or_refuse}
use Rattle.mock.specs.Device.{fresh_state, block_rules, create_told, created, CreateMeets}
use Rattle.mock_base.specs.Config.{default_config}
use Rattle.mock_base.specs.Told.{Answers}
use Rattle.deck.specs.Bench.{bench_at, fresh_bench, start_told}
use Rattle.deck.proofs.BenchLaws.{refused_left, done_cleared}
use Rattle.deck.proofs.bench.Bench.new.Goals as goal
use Rattle.deck.proofs.bench.Bench.new.Goals.{in-Ok, in_default}

-- what the device's creation says of answer and bench
tells : (r : MockStep) (config : MockDeviceConfig) (flash store : ℕ) → CreateMeets r (created First config flash store) → Answers r.answer (start_told flash)
unfolding created create_told block_rules or_refuse
tells r config flash store m = m.tells

fresh : (r : MockStep) (config : MockDeviceConfig) (flash store : ℕ) → config ≡ default_config → CreateMeets r (created First config flash store)
    → bench_at r.state 0 0 ≡ fresh_bench store
unfolding created
fresh r config flash store e m =
    ap (λ (d : MockState). bench_at d 0 0) (m.fresh ∙ ap (λ (k : MockDeviceConfig). fresh_state First k store) e)

pub returns : goal.returns
returns c =
    let a = c.args in
    let config = c.default in
    let made = c.new-made in
    let told = start_told (length a.flash.now) in
    let m = tells made.result config.result (length a.flash.now) (length a.store.now) made.ensures in
    record {
      tells = m;
      fresh = fresh made.result config.result (length a.flash.now) (length a.store.now) config.ensures made.ensures;
      leaves =
          elim c.match-made.branch [
            | in-Ok w ↦ w.flash-is ∙ w.fill.ensures.after (λ y e. e) ∙ done_cleared made.result.answer _ told a.flash.now m w.in-Ok.is
            | in_default w ↦ w.flash-is ∙ refused_left made.result.answer _ told a.flash.now m w.in_default.is
          ];
    }
