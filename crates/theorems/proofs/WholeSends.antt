-- What a whole upload has still to send: what is left of the image and what follows it.
use Prim.Native.Nat.{ℕ, zero, suc, ◌+◌, ◌-◌, ◌/◌, ◌%◌, ◌<◌, ◌≤◌}
use mathlib.Core.Path.{◌≡◌, refl, ap, ap₂, sym, ◌∙◌}
use mathlib.Core.List.{List, [], ◌∷◌, ◌++◌, map}
use native.Mathlib.Omega.{arith}
use lib.ListN.{length, take, drop, length-drop, take-append-drop}
use lib.Seq.{length-take-le, take_all, drop-drop}
use Rattle.crc.specs.Check.{crc_over}
use Rattle.promise.specs.Told.{Told, given}
use Rattle.maskrom_transfer.specs.declared.MaskRomSteps.{MaskRomSteps}
use Rattle.maskrom_transfer.specs.declared.MaskRomSteps.TheVariants.{Writing, Check, Dummy, Done}
use Rattle.maskrom.specs.declared.WholeUpload.{WholeUpload}
use Rattle.maskrom_transfer.specs.Moves.{check_bytes, Moves, moves, moves_at}
use Rattle.theorems.specs.UploadBytes.{cut}
use Rattle.promise.specs.Does.{Does, does}
use Rattle.maskrom.specs.Answers.{Asks}
use Rattle.maskrom.specs.PartWise.{asks}
use Rattle.maskrom.specs.Whole.{most, sent_on, sends_on, whole_step}
use Rattle.promise.proofs.Order.{length_high_first}
use Rattle.maskrom_transfer.proofs.Cases.{writing_block}
use Rattle.maskrom.proofs.Cases.{whole_sends, sends_acts}
use Rattle.theorems.specs.PartDriver.{transfer}
use Rattle.theorems.proofs.CutIntoTransfers.{cut_block}
use Rattle.crc.proofs.Laws.{over_empty}
use Rattle.theorems.proofs.BehindTheImage.{ending, regroup, ending_same}
use Rattle.theorems.proofs.StepsToFinish.{Sends, finishes, sends}
use Rattle.theorems.proofs.ClosingSends.{ends}

module _ (image : List ℕ) where
  abbrev step : WholeUpload → ℕ → Told (Does Asks WholeUpload)
  step u room = whole_step u image room

  pub whole_goes : (u : WholeUpload) (s : MaskRomSteps) (w : List ℕ) (c : ℕ) (to : Moves) → length image ≡ u.length → u.steps ≡ s
      → take (most s) (drop u.taken image) ≡ w → crc_over u.crc w ≡ c → moves_at s c w ≡ to
      → (room : ℕ) → 4096 ≤ room
      → step u room ≡ given (does (asks s u.area (length to.bytes)) to.bytes (sent_on u (length w) to.crc to.steps))
  whole_goes u s w c to l e d k t room h =
      whole_sends u image room h l
      ∙ ap (λ (x : List ℕ). sends_on u x room) (ap (λ (x : MaskRomSteps). take (most x) (drop u.taken image)) e ∙ d)
      ∙ sends_acts u w room h
      ∙ ap₂ (λ (x : MaskRomSteps) (y : Moves). given (does (asks x u.area (length y.bytes)) y.bytes (sent_on u (length w) y.crc y.steps)))
      e (ap₂ (λ (x : MaskRomSteps) (y : ℕ). moves_at x y w) e k ∙ t)

  pub done : (u : WholeUpload) → length image ≡ u.length → u.steps ≡ Done → Sends step u []
  unfolding asks moves_at most
  done u l e =
      finishes u (sent_on u 0 u.crc Done)
      (whole_goes u Done [] u.crc (moves [] u.crc Done) l e refl (over_empty u.crc) refl)

  dummy : (u : WholeUpload) → length image ≡ u.length → u.steps ≡ Dummy → Sends step u (transfer u.area (0 ∷ []) ∷ [])
  unfolding asks moves_at most
  dummy u l e =
      let next = sent_on u 0 u.crc Done in
      sends u next u.area (0 ∷ []) [] (omega arith)
      (whole_goes u Dummy [] u.crc (moves (0 ∷ []) u.crc Done) l e refl (over_empty u.crc) refl) (done next l refl)

  check : (u : WholeUpload) → length image ≡ u.length → u.steps ≡ Check → Sends step u (transfer u.area (check_bytes u.crc) ∷ [])
  unfolding asks moves_at most
  check u l e =
      let next = sent_on u 0 u.crc Done in
      let k = check_bytes u.crc in
      sends u next u.area k [] (omega (arith, length_high_first 2 u.crc))
      (whole_goes u Check [] u.crc (moves k u.crc Done) l e refl (over_empty u.crc) refl) (done next l refl)

  -- what is left, `l`, is some whole blocks and less than one
  pub image_sends : (q : ℕ) (u : WholeUpload) (l : List ℕ) → u.steps ≡ Writing → length image ≡ u.length → drop u.taken image ≡ l
      → u.taken + length l ≡ length image → u.taken % 4096 ≡ 0 → length l / 4096 ≡ q
      → Sends step u (map (transfer u.area) (cut (l ++ ending (crc_over u.crc l) (length image))))
  unfolding asks moves_at most
  image_sends zero u l e n d t z q =
      let c = crc_over u.crc l in
      let short : length l < 4096 = omega arith in
      let all : take 4096 (drop u.taken image) ≡ l = ap (take 4096) d ∙ take_all 4096 l (omega arith) in
      rw (ending_same c (length image) (length l) (omega arith))
      (ends step u.area c l u (λ (x : ℕ) (s : MaskRomSteps). sent_on u (length l) x s)
      (λ to w. whole_goes u Writing l c to n e all refl w)
      (λ x. done (sent_on u (length l) x Done) n refl)
      (λ x. dummy (sent_on u (length l) x Dummy) n refl)
      (λ x. check (sent_on u (length l) x Check) n refl)
      short)
  image_sends (suc k) u l e n d t z q =
      let w = take 4096 l in
      let rest = drop 4096 l in
      let c = crc_over u.crc w in
      let full : length w ≡ 4096 = length-take-le 4096 l (omega arith) in
      let next = sent_on u (length w) c Writing in
      let long : length rest ≡ length l - 4096 = length-drop 4096 l in
      let moved : drop (u.taken + length w) image ≡ rest = ap (λ (x : ℕ). drop (u.taken + x) image) full ∙ sym (drop-drop 4096 u.taken image) ∙ ap (drop 4096) d in
      let all : l ++ ending (crc_over u.crc l) (length image)
      ≡ w ++ (rest ++ ending (crc_over c rest) (length image)) =
      ap (λ (x : List ℕ). x ++ ending (crc_over u.crc x) (length image)) (sym (take-append-drop 4096 l))
      ∙ regroup u.crc (length image) w rest in
      rw (all, cut_block w (rest ++ ending (crc_over c rest) (length image)) full)
      (sends u next u.area w (map (transfer u.area) (cut (rest ++ ending (crc_over c rest) (length image)))) (omega arith)
      (whole_goes u Writing w c (moves w c Writing) n e (ap (take 4096) d) refl (writing_block c w full))
      (image_sends k next rest refl n moved (omega arith) (omega arith) (omega arith)))
