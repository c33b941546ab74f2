-- The run of an upload by its transfers: each is one control write to the area, and behind the last comes the finish.
use Prim.Native.Nat.{ℕ, zero, suc}
use mathlib.Core.Path.{◌≡◌, refl, ap, ap₂, ◌∙◌}
use mathlib.Core.List.{List, [], ◌∷◌, map}
use native.Mathlib.Omega.{arith}
use lib.ListN.{length}
use Rattle.promise.specs.Told.{Told, given, refused}
use Rattle.promise.specs.Does.{does, said, sent, after}
use Rattle.maskrom_transfer.specs.Moves.{block_size}
use Rattle.maskrom.specs.declared.WholeUpload.{WholeUpload}
use Rattle.maskrom.specs.Answers.{writes, finish, control}
use Rattle.maskrom.specs.Whole.{fresh_whole, whole_step}
use Rattle.theorems.specs.UploadBytes.{upload_bytes, cut}
use Rattle.theorems.specs.PartDriver.{Transfer, transfer, transfers_of}
use Rattle.theorems.proofs.StepsToFinish.{Sends, finishes, sends}
use Rattle.theorems.proofs.AnyCut.{whole_start}
use Rattle.mock.specs.declared.device.MockState.{MockState}
use Rattle.promise.specs.Run.{ends, tells, out_of_steps, Ran, ran, counted, follow, runs}
use Rattle.run_upload.specs.Load.{LoadState, load_state, onward, carried, carries, load_turn}
use Rattle.theorems.specs.Runs.{written}

-- a run with so many steps that has these transfers to make, from this device and store
pub data Loads (area : ℕ) : List (List ℕ) → ℕ → MockState → List ℕ → Ran Unit LoadState → Type 0 where
  spent : (pieces : List (List ℕ)) (device : MockState) (store : List ℕ) (u : WholeUpload) → Loads area pieces zero device store (ran out_of_steps 0 (load_state u device store))
  finished : (k : ℕ) (device : MockState) (store : List ℕ) (u : WholeUpload) → Loads area [] (suc k) device store (ran (tells (given tt)) 1 (load_state u device store))
  stopped : (k : ℕ) (bytes : List ℕ) (pieces : List (List ℕ)) (device : MockState) (store : List ℕ) (u : WholeUpload) (number : ℕ) (values : List ℕ)
      → (written device area bytes store).told ≡ refused number values
      → Loads area (bytes ∷ pieces) (suc k) device store
      (ran (tells (refused number values)) 1 (load_state u (written device area bytes store).next (written device area bytes store).leaves))
  sent_on_lem : (k : ℕ) (bytes : List ℕ) (pieces : List (List ℕ)) (device : MockState) (store : List ℕ) (r : Ran Unit LoadState)
      → (written device area bytes store).told ≡ given tt
      → Loads area pieces k (written device area bytes store).next (written device area bytes store).leaves r
      → Loads area (bytes ∷ pieces) (suc k) device store (counted 1 r)

module _ (image : List ℕ) (area : ℕ) where
  -- the two turns of an upload that is not refused
  last_turn : (u v : WholeUpload) (device : MockState) (store : List ℕ) → whole_step u image block_size ≡ given (does finish [] v)
      → load_turn image (load_state u device store) ≡ ends (given tt) (load_state v device store)
  unfolding load_turn carries said after
  last_turn u v device store e = rw e

  next_turn : (u v : WholeUpload) (n : ℕ) (bytes : List ℕ) (device : MockState) (store : List ℕ)
      → whole_step u image block_size ≡ given (does (writes (control area n)) bytes v)
      → load_turn image (load_state u device store) ≡ carried v (written device area bytes store)
  unfolding load_turn carries said sent after
  next_turn u v n bytes device store e = rw e

  -- a transfer, by what the device tells of it
  by_told : (k : ℕ) (bytes : List ℕ) (pieces : List (List ℕ)) (device : MockState) (store : List ℕ) (u : WholeUpload) (told : Told Unit)
      → (written device area bytes store).told ≡ told
      → ((d : MockState) (s : List ℕ) → Loads area pieces k d s (runs (load_turn image) k (load_state u d s)))
      → Loads area (bytes ∷ pieces) (suc k) device store
      (follow (onward told (load_state u (written device area bytes store).next (written device area bytes store).leaves)) (λ next. runs (load_turn image) k next))
  unfolding follow onward
  by_told k bytes pieces device store u (given done) e rest =
      let w = written device area bytes store in
      sent_on_lem k bytes pieces device store (runs (load_turn image) k (load_state u w.next w.leaves)) e (rest w.next w.leaves)
  by_told k bytes pieces device store u (refused number values) e rest = stopped k bytes pieces device store u number values e

  loads : (k : ℕ) (u : WholeUpload) (ts : List Transfer) (pieces : List (List ℕ)) → Sends (λ (v : WholeUpload) (room : ℕ). whole_step v image room) u ts
      → ts ≡ map (transfer area) pieces → (device : MockState) (store : List ℕ) → Loads area pieces k device store (runs (load_turn image) k (load_state u device store))
  unfolding runs follow
  loads zero u ts pieces s e device store = spent pieces device store u
  loads (suc k) u ts [] (finishes r r' f) e device store =
      rw (last_turn r r' device store (f block_size (omega arith))) (finished k device store r')
  loads (suc k) u ts (p ∷ pieces) (finishes r r' f) e device store = absurd (let z : ◌≡◌ {A = ℕ} 0 1 = cc in omega arith)
  loads (suc k) u ts [] (sends r r' to bs us few f s) e device store = absurd (let z : ◌≡◌ {A = ℕ} 0 1 = cc in omega arith)
  loads (suc k) u ts (p ∷ pieces) (sends r r' to bs us few f s) e device store =
      let head : transfer to bs ≡ transfer area p = cc in
      let tail : us ≡ map (transfer area) pieces = cc in
      let same : to ≡ area = ap (λ (t : Transfer). t.setup.index) head in
      let bytes : bs ≡ p = ap (λ (t : Transfer). t.bytes) head in
      let step : whole_step r image block_size ≡ given (does (writes (control area (length bs))) p r') =
      f block_size (omega arith) ∙ ap₂ (λ (a : ℕ) (l : List ℕ). given (does (writes (control a (length bs))) l r')) same bytes in
      rw (next_turn r r' (length bs) p device store step)
      (by_told k p pieces device store r' (written device area p store).told refl (loads k r' us pieces s tail))

-- a fresh upload has the transfers of its bytes to make
pub fresh_loads : (area : ℕ) (image : List ℕ) (budget : ℕ) (device : MockState) (store : List ℕ)
    → Loads area (cut (upload_bytes image)) budget device store
    (runs (load_turn image) budget (load_state (fresh_whole area (length image)) device store))
unfolding transfers_of
fresh_loads area image budget device store =
    loads image area budget (fresh_whole area (length image)) (transfers_of area image) (cut (upload_bytes image)) (whole_start area image) refl device store
