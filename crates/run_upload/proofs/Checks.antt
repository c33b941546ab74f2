-- What the checks before the first step come to, in their order.
use Prim.Native.Nat.{ℕ, ◌/◌}
use mathlib.Core.Path.{◌≡◌, refl, ap, sym, subst, ◌∙◌}
use mathlib.Core.Bool.{not}
use mathlib.Core.List.{List, [], ◌∷◌, append-nil}
use lib.Dec.{eqb}
use lib.ListN.{length}
use borrow.Author.Tests.{eq-eqb, ne_eqb}
use Rattle.promise.specs.Told.{given, refused}
use Rattle.promise.specs.Rules.{Rule, rule, unless, or_refuse, differs}
use Rattle.promise.proofs.Outcome.{unmet_first, met_first}
use Rattle.protocol_bytes.specs.Signature.{no_signature}
use Rattle.protocol_bytes.specs.Sector.{sector_size}
use Rattle.mock_base.specs.Told.{error_number, error_values}
use Rattle.mock_base.specs.Flash.{flash_rules, flash_sectors, size_told}
use Rattle.mock_base.specs.declared.error.MockTransportError.{MockTransportError}
use Rattle.mock.specs.Device.{store_rule}
use Rattle.promise.specs.Run.{Ran, tells, runs}
use Rattle.run_upload.specs.declared.LoadStopError.{LoadStopError}
use Rattle.run_upload.specs.declared.LoadStopError.TheVariants.{Device, OutputTooShort, ImageDiffers}
use Rattle.run_upload.specs.declared.LoadError.TheVariants.{Stopped}
use Rattle.run_upload.specs.declared.LoadRun.{LoadRun}
use Rattle.run_upload.specs.Load.{LoadState, load_turn, load_rules, unstarted, load_run}
use Rattle.run_upload.specs.Answers.{stop_error_number, load_stop_told, answer_end, RunMeets}
use Rattle.run_upload.specs.Code.{run_by}
use Rattle.std.specs.Prelude.{Result}
use Rattle.std.specs.declared.result.Result.TheVariants.{Ok, Err}

-- number and values of what stops a run
unfoldable pub stop_values : LoadStopError → List ℕ
stop_values (Device error) = error_values error no_signature
stop_values OutputTooShort = []
stop_values ImageDiffers = []

pub told_by : (stop : LoadStopError) → load_stop_told (Err stop) ≡ refused (stop_error_number stop) (stop_values stop)
unfolding load_stop_told stop_values
told_by (Device error) = refl
told_by OutputTooShort = refl
told_by ImageDiffers = refl

-- a run that stops before its first step
pub stopped : (stop : LoadStopError) (s : LoadState) (n : ℕ) (values : List ℕ) → load_stop_told (Err stop) ≡ refused n values
    → RunMeets (run_by (Err (Stopped stop)) 0 s.upload s.device) s.store (unstarted s n values)
unfolding answer_end
stopped stop s n values e = record { tells = ap tells e; steps = refl; leaves = refl }

-- by what the code made and by what the definition comes to
pub as_run : (r made : LoadRun) (store : List ℕ) (run comes : Ran Unit LoadState) → r ≡ made → run ≡ comes → RunMeets made store comes → RunMeets r store run
as_run r made store run comes e f m =
    subst (λ (x : LoadRun). RunMeets x store run) (sym e) (subst (λ (w : Ran Unit LoadState). RunMeets made store w) (sym f) m)

-- the checks' own answer, and whatever else is made of them
module _ {A : Type 0} (refuse : ℕ → List ℕ → A) (done : A) (s : LoadState) (flash image : ℕ) where
  abbrev late : List Rule
  late = store_rule s.device (length s.store) ∷ rule (not (eqb image s.upload.length)) differs [] ∷ []

  abbrev all : A
  all = or_refuse refuse (load_rules s flash image) done

  pub by_flash : (sectors : Result ℕ MockTransportError) (e : MockTransportError) → size_told sectors ≡ flash_sectors flash → sectors ≡ Err e
      → all ≡ refuse (error_number e) (error_values e no_signature)
  unfolding load_rules size_told flash_sectors
  by_flash sectors e h f =
      unmet_first refuse (flash_rules flash) late (flash / sector_size) done (error_number e) (error_values e no_signature) (sym h ∙ ap size_told f)

  module _ (sectors : Result ℕ MockTransportError) (k : ℕ) (h : size_told sectors ≡ flash_sectors flash) (f : sectors ≡ Ok k) where
    met : all ≡ or_refuse refuse late done
    unfolding load_rules size_told flash_sectors
    met = met_first refuse (flash_rules flash) late (flash / sector_size) k done (sym h ∙ ap size_told f)

    pub by_store : (length s.store ≡ s.device.store_length → ⊥) → all ≡ refuse 65 []
    unfolding or_refuse
    by_store n = met ∙ rw (ne_eqb (length s.store) s.device.store_length n)

    pub by_image : length s.store ≡ s.device.store_length → (image ≡ s.upload.length → ⊥) → all ≡ refuse differs []
    unfolding or_refuse
    by_image e n = met ∙ rw (eq-eqb (length s.store) s.device.store_length e, ne_eqb image s.upload.length n)

    pub by_none : length s.store ≡ s.device.store_length → image ≡ s.upload.length → all ≡ done
    unfolding or_refuse
    by_none e l = met ∙ rw (eq-eqb (length s.store) s.device.store_length e, eq-eqb image s.upload.length l)

module _ (image : List ℕ) (flash budget : ℕ) (s : LoadState) where
  abbrev run : Ran Unit LoadState
  run = runs (load_turn image) budget s

  pub flash_refused : (sectors : Result ℕ MockTransportError) (e : MockTransportError) → size_told sectors ≡ flash_sectors flash → sectors ≡ Err e
      → load_run image flash budget s ≡ unstarted s (error_number e) (error_values e no_signature)
  unfolding load_run
  flash_refused = by_flash (unstarted s) run s flash (length image)

  module _ (sectors : Result ℕ MockTransportError) (k : ℕ) (h : size_told sectors ≡ flash_sectors flash) (f : sectors ≡ Ok k) where
    pub store_refused : (length s.store ≡ s.device.store_length → ⊥) → load_run image flash budget s ≡ unstarted s 65 []
    unfolding load_run
    store_refused = by_store (unstarted s) run s flash (length image) sectors k h f

    pub unrefused : length s.store ≡ s.device.store_length → length image ≡ s.upload.length → load_run image flash budget s ≡ run
    unfolding load_run
    unrefused = by_none (unstarted s) run s flash (length image) sectors k h f

  -- what the checks tell decides the run
  pub run_refused : (n : ℕ) (values : List ℕ) → unless {A = Unit} (load_rules s flash (length image)) (given tt) ≡ refused n values
      → load_run image flash budget s ≡ unstarted s n values
  unfolding load_run
  run_refused n values e =
      ap (λ (rules : List Rule). or_refuse (unstarted s) rules run) (sym (append-nil (load_rules s flash (length image))))
      ∙ unmet_first (unstarted s) (load_rules s flash (length image)) [] tt run n values e

  pub run_begins : unless {A = Unit} (load_rules s flash (length image)) (given tt) ≡ given tt → load_run image flash budget s ≡ run
  unfolding load_run or_refuse
  run_begins e =
      ap (λ (rules : List Rule). or_refuse (unstarted s) rules run) (sym (append-nil (load_rules s flash (length image))))
      ∙ met_first (unstarted s) (load_rules s flash (length image)) [] tt tt run e
