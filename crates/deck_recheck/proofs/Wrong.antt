-- Programs that the contracts rule out, whatever their proofs: each answer is refuted at a named chunk.
use Rattle.std.proofs.Common.{◌≡◌, ℕ, List, [], ◌∷◌, ◌++◌, length, get_or, replicate, sym, refl, ap, ◌∙◌, append-nil, arith, lit≤}
use Rattle.std.specs.Prelude.{Option}
use Rattle.std.specs.declared.option.Option.TheVariants.{Some}
use Rattle.promise.specs.Told.{given, refused, number}
use Rattle.promise.specs.Bytes.{front, low_first, high_first, from_low, from_high}
use Rattle.crc.specs.Check.{bit_step, bits_step, byte_step, crc_over}
use Rattle.deck_block.specs.Block.{fields_of, block_check, with_check}
use Rattle.deck_block.specs.Place.{RightBefore}
use Rattle.deck_block.specs.Blocks.{cut, blocks_of, joined}
use Rattle.deck_recheck.specs.declared.Stop.{Stop}
use Rattle.deck_recheck.specs.declared.Stop.TheVariants.{BadCheck, Short}
use Rattle.deck_recheck.specs.declared.Recheck.{Recheck}
use Rattle.deck_recheck.specs.declared.RecheckStep.{RecheckStep}
use Rattle.deck_recheck.specs.Recheck.{stop_told, Standing, standing, new_recheck, behind, Written, written, recheck_blocks, recheck_all, RecheckMeets}
use Rattle.deck_recheck.proofs.Laws.{stopped_for_good}
use Rattle.deck_recheck.proofs.Exactly.{right_rechecked, stops_at}

-- zeros with a check of 0, which is wrong, and with their first check
abbrev bad : List ℕ
bad = replicate 512 0

abbrev right : List ℕ
right = replicate 510 0 ++ (0x44 ∷ 0xb7 ∷ [])

abbrev fresh : Standing
fresh = standing new_recheck

is_wrong : RightBefore bad → ⊥
unfolding fields_of from_high from_low crc_over byte_step bits_step bit_step
is_wrong e = let z : ◌≡◌ {A = ℕ} 0 0x44b7 = e in omega arith

is_right_lem : RightBefore right
unfolding fields_of from_high from_low crc_over byte_step bits_step bit_step
is_right_lem = refl

one_bad : blocks_of bad ≡ bad ∷ []
unfolding cut
one_bad = refl

-- the deck is refused as 40 at its first block, whatever follows that
refused_first : (more : List (List ℕ)) → recheck_blocks (bad ∷ more) fresh ≡ written [] (behind fresh (refused 40 (1 ∷ [])))
unfolding stop_told joined
refused_first more = stops_at [] bad more fresh refl tt (λ both. is_wrong both.1)

two_blocks : blocks_of (bad ++ right) ≡ bad ∷ right ∷ []
unfolding cut
two_blocks = refl

one_block : blocks_of right ≡ right ∷ []
unfolding cut
one_block = refl

bad_alone : recheck_all bad fresh ≡ written [] (behind fresh (refused 40 (1 ∷ [])))
bad_alone = ap (λ (bs : List (List ℕ)). recheck_blocks bs fresh) one_bad ∙ refused_first []

bad_then_right : recheck_all (bad ++ right) fresh ≡ written [] (behind fresh (refused 40 (1 ∷ [])))
bad_then_right = ap (λ (bs : List (List ℕ)). recheck_blocks bs fresh) two_blocks ∙ refused_first (right ∷ [])

rechecks_right : recheck_all right fresh ≡ written (with_check 1 right) (behind fresh (given tt))
unfolding recheck_blocks stop_told
rechecks_right =
    ap (λ (bs : List (List ℕ)). recheck_blocks bs fresh) one_block
    ∙ ap (λ (w : Written). written (w.bytes ++ []) w.leaves) (right_rechecked right fresh refl (lit≤ tt) is_right_lem)
    ∙ ap (λ (l : List ℕ). written l (behind fresh (given tt))) (append-nil (with_check 1 right))

-- a wrong first check accepted: the block is rechecked
pub wrong_sum_accepted : (r : RecheckStep) (after : List ℕ) → r.bytes ≡ 512 → RecheckMeets r after bad (recheck_all bad fresh) → ⊥
wrong_sum_accepted r after all m = let n = m.bytes ∙ ap (λ (w : Written). length w.bytes) bad_alone in omega (arith, n, all)

-- on behind a bad block: the second block is looked at
pub on_behind_a_bad_block : (r : RecheckStep) (after : List ℕ) → r.recheck.number ≡ 2 → RecheckMeets r after (bad ++ right) (recheck_all (bad ++ right) fresh) → ⊥
on_behind_a_bad_block r after second m =
    let n : r.recheck.number ≡ 1 = ap (λ (s : Standing). s.number) (m.next ∙ ap (λ (w : Written). w.leaves) bad_then_right) in
    omega (arith, n, second)

-- the same in a later call: a block that is lent behind a stop is rechecked
abbrev stopped : Recheck
stopped = record { number = 1; tag = 1; stop = Some BadCheck }

pub on_in_a_later_call : (r : RecheckStep) (after : List ℕ) → r.bytes ≡ 512 → RecheckMeets r after right (recheck_all right (standing stopped)) → ⊥
unfolding stop_told
on_in_a_later_call r after all m =
    let n = m.bytes ∙ ap (λ (w : Written). length w.bytes) (stopped_for_good (blocks_of right) (standing stopped) tt) in omega (arith, n, all)

-- doing nothing: the first check left where it was
pub left_as_it_was : (r : RecheckStep) → RecheckMeets r right right (recheck_all right fresh) → ⊥
unfolding block_check high_first low_first crc_over byte_step bits_step bit_step
left_as_it_was r m =
    let same = m.leaves ∙ ap (λ (w : Written). front w.bytes right) rechecks_right in
    let z : ◌≡◌ {A = ℕ} 0x44 0x75 = ap (λ (l : List ℕ). get_or l 510 0) same in omega arith

-- the check of another place: with the tag before it is counted on, and with that of the next block
pub tag_not_counted : (r : RecheckStep) → RecheckMeets r (with_check 0 right) right (recheck_all right fresh) → ⊥
unfolding block_check high_first low_first crc_over byte_step bits_step bit_step
tag_not_counted r m =
    let same = m.leaves ∙ ap (λ (w : Written). front w.bytes right) rechecks_right in
    let z : ◌≡◌ {A = ℕ} 0xdf 0x75 = ap (λ (l : List ℕ). get_or l 510 0) same in omega arith

pub tag_of_the_next : (r : RecheckStep) → RecheckMeets r (with_check 2 right) right (recheck_all right fresh) → ⊥
unfolding block_check high_first low_first crc_over byte_step bits_step bit_step
tag_of_the_next r m =
    let same = m.leaves ∙ ap (λ (w : Written). front w.bytes right) rechecks_right in
    let z : ◌≡◌ {A = ℕ} 0x9a 0x75 = ap (λ (l : List ℕ). get_or l 510 0) same in omega arith

-- every block refused
pub always_refusing : (r : RecheckStep) (after : List ℕ) → r.recheck.stop ≡ Some BadCheck → RecheckMeets r after right (recheck_all right fresh) → ⊥
unfolding stop_told number
always_refusing r after refuses m =
    let told : stop_told r.recheck.stop r.recheck.number ≡ given tt = ap (λ (s : Standing). s.told) (m.next ∙ ap (λ (w : Written). w.leaves) rechecks_right) in
    let z : ◌≡◌ {A = ℕ} 40 0 = ap (λ (s : Option Stop). number (stop_told s r.recheck.number)) (sym refuses) ∙ ap number told in omega arith

-- a deck that starts at 1, or that has stopped before its first block
pub starts_at_one : (r : Recheck) → r.number ≡ 1 → r ≡ new_recheck → ⊥
starts_at_one r one e = let n : r.number ≡ 0 = ap (λ (d : Recheck). d.number) e in omega arith

pub stopped_at_first : (r : Recheck) → r.stop ≡ Some Short → r ≡ new_recheck → ⊥
unfolding stop_told number
stopped_at_first r stops e =
    let z : ◌≡◌ {A = ℕ} 44 0 = ap (λ (s : Option Stop). number (stop_told s 0)) (sym stops ∙ ap (λ (d : Recheck). d.stop) e) in omega arith

-- one number for two refusals; a refusal told as 0
pub one_number : (n : ℕ) → ((k : ℕ) → n ≡ number (stop_told (Some BadCheck) k)) → ((k : ℕ) → n ≡ number (stop_told (Some Short) k)) → ⊥
unfolding stop_told number
one_number n bad-check short = let a = bad-check 0 in let b = short 0 in omega arith

pub stop_told_as_0 : ((k : ℕ) → 0 ≡ number (stop_told (Some Short) k)) → ⊥
unfolding stop_told number
stop_told_as_0 e = let z = e 0 in omega arith
