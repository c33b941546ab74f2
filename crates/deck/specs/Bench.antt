-- The bench from block to block: "Block k (from 1) has tag k", whatever came before.
use Rattle.std.specs.Prelude.{◌≡◌, ℕ, ◌+◌, ◌%◌, ◌^◌, List, length, replicate}
use Rattle.promise.specs.Told.{Told, given, refused, and_then}
use Rattle.mock.specs.declared.device.MockState.{MockState}
use Rattle.mock_base.specs.Config.{default_config, default_byte}
use Rattle.mock_base.specs.Flash.{flash_sectors}
use Rattle.mock_base.specs.Told.{Answers}
use Rattle.mock_base.specs.declared.cells.Variety.TheVariants.{First}
use Rattle.mock.specs.Device.{fresh_state}
use Rattle.deck.specs.Verdict.{verdict_told, beside_dealt}
use Rattle.deck.specs.Deal.{Deal, head}
use Rattle.deck.specs.declared.bench.Bench.{Bench}
use Rattle.deck.specs.declared.bench.BenchStart.{BenchStart}
use Rattle.deck.specs.declared.bench.DeckStep.{DeckStep}
use Rattle.deck.specs.Dealing.{deal_block}

-- "The device starts as the Rust's default"
abbrev pub fresh_bench : ℕ → Bench
fresh_bench storeLength = record { device = fresh_state First default_config storeLength; number = 0; tag = 0 }

-- 60 and 61 for a lent flash of so many bytes
abbrev pub start_told : ℕ → Told Unit
start_told flashLength = and_then (flash_sectors flashLength) (λ sectors. given tt)

-- each byte of the flash as the default's; a refused one is left as it was
unfoldable pub start_flash : Told Unit → List ℕ → List ℕ
start_flash (given done) flash = replicate (length flash) default_byte
start_flash (refused number values) flash = flash

-- a start that answers r and leaves the flash `after`; beside a refusal stands the bench as if unrefused
pub record StartMeets (r : BenchStart) (after flash : List ℕ) (storeLength : ℕ) : Type 0 where
  pub tells : Answers r.answer (start_told (length flash))
  pub fresh : r.bench ≡ fresh_bench storeLength
  pub leaves : after ≡ start_flash (start_told (length flash)) flash

-- "the tag goes on from 4,294,967,295 to 0"
abbrev pub next_tag : Bench → ℕ
next_tag bench = (bench.tag + 1) % 2 ^ 32

-- the printed number, in 64 bits
abbrev pub next_number : Bench → ℕ
next_number bench = (bench.number + 1) % 2 ^ 64

abbrev pub bench_at : MockState → ℕ → ℕ → Bench
bench_at device number tag = record { device = device; number = number; tag = tag }

-- what the next block comes to
abbrev pub next_deal : Bench → List ℕ → List ℕ → List ℕ → Deal
next_deal bench block flash store = deal_block (next_tag bench) block (head bench.device flash store)

-- a step that answers r and leaves flash and store so; refused blocks count, too
pub record StepMeets (r : DeckStep) (flash store : List ℕ) (bench : Bench) (block before held : List ℕ) : Type 0 where
  pub tells : verdict_told r.verdict r.beside ≡ (next_deal bench block before held).told
  pub beside : r.beside ≡ beside_dealt (next_deal bench block before held).told
  pub leaves : head r.bench.device flash store ≡ (next_deal bench block before held).leaves
  pub number : r.bench.number ≡ next_number bench
  pub tag : r.bench.tag ≡ next_tag bench
