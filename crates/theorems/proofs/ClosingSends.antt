-- What a record sends once it is closed: the bytes that wait and what follows the image.
use Prim.Native.Nat.{ℕ, ◌<◌, ◌≤◌}
use mathlib.Core.Path.{◌≡◌, refl, ap, ap₂, sym, ◌∙◌}
use mathlib.Core.List.{List, [], ◌∷◌, ◌++◌, map, append_assoc}
use native.Mathlib.Omega.{arith}
use native.Mathlib.Decide.{dec_lt, ℕ_discrete}
use lib.ListN.{length, length-append}
use Rattle.crc.specs.Check.{crc_over}
use Rattle.promise.specs.Told.{Told, given}
use Rattle.maskrom_transfer.specs.declared.MaskRomSteps.{MaskRomSteps}
use Rattle.maskrom_transfer.specs.declared.MaskRomSteps.TheVariants.{Writing, Check, Dummy, Done}
use Rattle.maskrom.specs.declared.MaskRomOperation.{MaskRomOperation}
use Rattle.maskrom_transfer.specs.Moves.{check_bytes, Moves, moves, writing, moves_at}
use Rattle.theorems.specs.UploadBytes.{cut}
use Rattle.promise.specs.Does.{Does, does}
use Rattle.maskrom.specs.Answers.{control, Asks, writes}
use Rattle.maskrom.specs.PartWise.{held, asks, with_moved, close_step}
use Rattle.promise.proofs.Order.{length_high_first}
use Rattle.maskrom_transfer.proofs.Cases.{writing_pad, writing_dummy, writing_last}
use Rattle.maskrom.proofs.Cases.{close_acts}
use Rattle.theorems.specs.PartDriver.{transfer}
use Rattle.theorems.proofs.CutIntoTransfers.{cut_block, cut_short}
use Rattle.theorems.proofs.BehindTheImage.{ending, ending_pad, ending_dummy, ending_last}
use Rattle.theorems.proofs.StepsToFinish.{Sends, finishes, sends}

-- the transfers of what is left of an image, `w`, of fewer bytes than a block, and of what follows it
module _ (area : ℕ) (crc : ℕ) (w : List ℕ) where
  pub tail_pad : length w ≡ 4095
      → map (transfer area) (cut (w ++ ending crc (length w)))
      ≡ transfer area (w ++ (0 ∷ [])) ∷ transfer area (check_bytes (crc_over crc (0 ∷ []))) ∷ []
  tail_pad e =
      let k = check_bytes (crc_over crc (0 ∷ [])) in
      let short : length k < 4096 = omega (arith, length_high_first 2 (crc_over crc (0 ∷ []))) in
      let full : length (w ++ (0 ∷ [])) ≡ 4096 = simp length-append (omega arith) in
      ap (λ (l : List ℕ). map (transfer area) (cut l))
      (ap (λ (l : List ℕ). w ++ l) (ending_pad crc (length w) (omega arith)) ∙ sym (append_assoc w (0 ∷ []) k))
      ∙ ap (map (transfer area)) (cut_block (w ++ (0 ∷ [])) k full ∙ ap (λ (ls : List (List ℕ)). (w ++ (0 ∷ [])) ∷ ls) (cut_short k short))

  pub tail_dummy : length w ≡ 4094
      → map (transfer area) (cut (w ++ ending crc (length w)))
      ≡ transfer area (w ++ check_bytes crc) ∷ transfer area (0 ∷ []) ∷ []
  tail_dummy e =
      let k = check_bytes crc in
      let full : length (w ++ k) ≡ 4096 = simp length-append (omega (arith, length_high_first 2 crc)) in
      let z : List ℕ = 0 ∷ [] in
      let short : length z < 4096 = omega arith in
      ap (λ (l : List ℕ). map (transfer area) (cut l))
      (ap (λ (l : List ℕ). w ++ l) (ending_dummy crc (length w) (omega arith)) ∙ sym (append_assoc w k (0 ∷ [])))
      ∙ ap (map (transfer area)) (cut_block (w ++ k) (0 ∷ []) full ∙ ap (λ (ls : List (List ℕ)). (w ++ k) ∷ ls) (cut_short z short))

  pub tail_last : length w < 4094
      → map (transfer area) (cut (w ++ ending crc (length w))) ≡ transfer area (w ++ check_bytes crc) ∷ []
  tail_last h =
      let k = check_bytes crc in
      let short : length (w ++ k) < 4096 = simp length-append (omega (arith, length_high_first 2 crc)) in
      ap (λ (l : List ℕ). map (transfer area) (cut (w ++ l))) (ending_last crc (length w) (omega arith))
      ∙ ap (map (transfer area)) (cut_short (w ++ k) short)

-- a record that is at `w`, given what it sends at the places that come after
module _ {R : Type 0} (step : R → ℕ → Told (Does Asks R)) (area : ℕ) (crc : ℕ) (w : List ℕ) (r : R) (at : ℕ → MaskRomSteps → R)
    (first : (to : Moves) → writing crc w ≡ to → (room : ℕ) → 4096 ≤ room
    → step r room ≡ given (does (writes (control area (length to.bytes))) to.bytes (at to.crc to.steps)))
    (done : (c : ℕ) → Sends step (at c Done) [])
    (dummy : (c : ℕ) → Sends step (at c Dummy) (transfer area (0 ∷ []) ∷ []))
    (check : (c : ℕ) → Sends step (at c Check) (transfer area (check_bytes c) ∷ [])) where
  ends_by : Dec (length w < 4094) → Dec (length w ≡ 4094) → length w < 4096 → Sends step r (map (transfer area) (cut (w ++ ending crc (length w))))
  ends_by (yes h) d n =
      let bs = w ++ check_bytes crc in
      let b : length bs ≤ 4096 = simp length-append (omega (arith, length_high_first 2 crc)) in
      rw (tail_last area crc w h) (sends r (at crc Done) area bs [] b (first (moves bs crc Done) (writing_last crc w h)) (done crc))
  ends_by (no h) (yes e) n =
      let bs = w ++ check_bytes crc in
      let b : length bs ≤ 4096 = simp length-append (omega (arith, length_high_first 2 crc)) in
      rw (tail_dummy area crc w e)
      (sends r (at crc Dummy) area bs (transfer area (0 ∷ []) ∷ []) b (first (moves bs crc Dummy) (writing_dummy crc w e)) (dummy crc))
  ends_by (no h) (no e) n =
      let bs = w ++ (0 ∷ []) in
      let p : length w ≡ 4095 = omega arith in
      let b : length bs ≤ 4096 = simp length-append (omega arith) in
      let c = crc_over crc (0 ∷ []) in
      rw (tail_pad area crc w p)
      (sends r (at c Check) area bs (transfer area (check_bytes c) ∷ []) b (first (moves bs c Check) (writing_pad crc w p)) (check c))

  pub ends : length w < 4096 → Sends step r (map (transfer area) (cut (w ++ ending crc (length w))))
  ends n = ends_by (dec_lt (length w) 4094) (ℕ_discrete (length w) 4094) n

-- closing steps of a part-wise upload
pub close_goes : (m : MaskRomOperation) (s : MaskRomSteps) (to : Moves) → m.steps ≡ s → moves_at s m.crc (held m) ≡ to
    → (room : ℕ) → 4096 ≤ room
    → close_step m room ≡ given (does (asks s m.area (length to.bytes)) to.bytes (with_moved m to.crc to.steps))
close_goes m s to e t room h =
    close_acts m room h
    ∙ ap₂ (λ (x : MaskRomSteps) (t : Moves). given (does (asks x m.area (length t.bytes)) t.bytes (with_moved m t.crc t.steps)))
    e (ap (λ (x : MaskRomSteps). moves_at x m.crc (held m)) e ∙ t)

pub close_done : (m : MaskRomOperation) → m.steps ≡ Done → Sends close_step m []
unfolding asks moves_at
close_done m e = finishes m (with_moved m m.crc Done) (close_goes m Done (moves [] m.crc Done) e refl)

close_dummy : (m : MaskRomOperation) → m.steps ≡ Dummy → Sends close_step m (transfer m.area (0 ∷ []) ∷ [])
unfolding asks moves_at
close_dummy m e =
    let next = with_moved m m.crc Done in
    sends m next m.area (0 ∷ []) [] (omega arith) (close_goes m Dummy (moves (0 ∷ []) m.crc Done) e refl) (close_done next refl)

close_check : (m : MaskRomOperation) → m.steps ≡ Check → Sends close_step m (transfer m.area (check_bytes m.crc) ∷ [])
unfolding asks moves_at
close_check m e =
    let next = with_moved m m.crc Done in
    let k = check_bytes m.crc in
    sends m next m.area k [] (omega (arith, length_high_first 2 m.crc)) (close_goes m Check (moves k m.crc Done) e refl) (close_done next refl)

pub close_sends : (m : MaskRomOperation) → m.steps ≡ Writing → length (held m) < 4096
    → Sends close_step m (map (transfer m.area) (cut (held m ++ ending m.crc (length (held m)))))
unfolding asks moves_at
close_sends m e h =
    ends close_step m.area m.crc (held m) m (with_moved m) (λ to t. close_goes m Writing to e t)
    (λ c. close_done (with_moved m c Done) refl)
    (λ c. close_dummy (with_moved m c Dummy) refl)
    (λ c. close_check (with_moved m c Check) refl)
    h
