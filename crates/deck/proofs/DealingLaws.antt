-- The bytes that are lent, the operation or upload that is started, and a request taken to what is done for it.
use Rattle.std.proofs.Common.{◌≡◌, ℕ, ◌+◌, ◌-◌, ◌*◌, ◌/◌, ◌%◌, ◌≤◌, List, [], ◌∷◌, length, take, replicate, sym, refl, ap, ◌∙◌, subst, arith, take_at, le-ltb}
use lib.ListN.{length-replicate, replicate-append-replicate}
use types.Run.{OneOf, miss}
use denote.Enum.Declared.{tag_of}
use Rattle.promise.specs.Told.{Told}
use Rattle.promise.specs.Rules.{or_refuse}
use Rattle.protocol.specs.declared.CommandBlock.{CommandBlock}
use Rattle.protocol_reply.specs.Sectors.{sectors_in}
use Rattle.operation_finish.specs.declared.Kind.TheVariants as kind
use Rattle.operation.specs.declared.steps.UsbOperation.{UsbOperation}
use Rattle.operation.specs.Record.{fresh}
use Rattle.operation.specs.Start.{sectors_or0}
use Rattle.maskrom.specs.declared.WholeUpload.{WholeUpload}
use Rattle.promise.specs.Does.{after}
use Rattle.maskrom.specs.Answers.{longest}
use Rattle.maskrom.specs.Whole.{fresh_whole, start_step}
use Rattle.run_turn.specs.Turn.{is_write, lent_to}
use Rattle.mock.specs.declared.device.MockState.{MockState}
use Rattle.deck_block.specs.declared.Request.{Request}
use Rattle.deck_block.specs.declared.Request.TheVariants as request
use Rattle.deck_block.specs.contracts.Request as requests
use Rattle.deck_block.specs.Reading.{card_error_number, card_told, read_card}
use Rattle.deck.specs.declared.verdict.Dealt.{Dealt}
use Rattle.deck.specs.Deal.{Head, head, away, turned_away, DealMeets}
use Rattle.deck.proofs.VerdictLaws.{away_deal}
use Rattle.deck.specs.Dealing.{operate, load_of, load, carry_out, deal_asked, deal_block}
use Rattle.deck.specs.Code.{room, plain_start}
use Rattle.std.specs.Prelude.{Result}
use Rattle.rule_number.specs.Number.{number_of}
use Rattle.deck_block.specs.declared.CardError.{CardError}
use Rattle.std.specs.declared.result.Result.TheVariants.{Ok, Err}
use Rattle.deck_block.specs.declared.CardError.TheVariants as card_error

-- the first n bytes of the room
pub take_filled : (n fill : ℕ) (l : List ℕ) → l ≡ replicate room fill → n ≤ room → take n l ≡ replicate n fill
take_filled n fill l e h =
    let whole : n + (room - n) ≡ room = omega arith in
    ap (take n) (e ∙ ap (λ (k : ℕ). replicate k fill) (sym whole) ∙ sym (replicate-append-replicate n (room - n) fill))
    ∙ take_at (replicate n fill) (replicate (room - n) fill) n (length-replicate n fill)

pub as_long : (n fill : ℕ) (l : List ℕ) → l ≡ replicate room fill → n ≤ room → n ≡ length (take n l)
as_long n fill l e h = sym (ap length (take_filled n fill l e h) ∙ length-replicate n fill)

-- whole sectors are as many as they are
pub sectors_exact : (count : ℕ) → count ≤ 65535 → sectors_or0 (sectors_in (count * 512)) ≡ count
unfolding sectors_or0 sectors_in or_refuse
sectors_exact count h =
    let none : count * 512 % 512 ≡ 0 = omega arith in
    let same : count * 512 / 512 ≡ count = omega arith in
    rw (none, same, le-ltb 65535 count h)

pub written_from : (op : UsbOperation) (command : CommandBlock) (bytes : List ℕ) → op ≡ fresh kind.Write command → lent_to op.kind bytes [] ≡ bytes
unfolding is_write
written_from op command bytes e = ap (λ (o : UsbOperation). lent_to o.kind bytes []) e

pub as_asked : (r : Dealt) (flash store : List ℕ) (op op' : UsbOperation) (bytes bytes' : List ℕ) (h : Head) → op ≡ op' → bytes ≡ bytes'
    → DealMeets r flash store (operate op bytes h) → DealMeets r flash store (operate op' bytes' h)
as_asked r flash store op op' bytes bytes' h e f m =
    subst (λ (b : List ℕ). DealMeets r flash store (operate op' b h)) f (subst (λ (o : UsbOperation). DealMeets r flash store (operate o bytes h)) e m)

-- the start of a whole upload hands it back fresh
pub starts_fresh : (area : ℕ) (image : List ℕ) → length image ≤ longest
    → after (fresh_whole area 0) (start_step area image) ≡ fresh_whole area (length image)
unfolding start_step or_refuse after
starts_fresh area image h = rw (le-ltb longest (length image) h)

pub as_loaded : (r : Dealt) (flash store : List ℕ) (area : ℕ) (upload : WholeUpload) (image image' : List ℕ) (h : Head)
    → upload ≡ fresh_whole area (length image) → image ≡ image'
    → DealMeets r flash store (load_of upload image h) → DealMeets r flash store (load area image' h)
as_loaded r flash store area upload image image' h e f m =
    subst (λ (i : List ℕ). DealMeets r flash store (load area i h)) f
    (subst (λ (u : WholeUpload). DealMeets r flash store (load_of u image h)) e m)

-- what was done for a request, where that is what is carried out for it
pub as_request : (r : Dealt) (flash store : List ℕ) (tag : ℕ) (asked asked' : Request) (h : Head) → asked ≡ asked'
    → DealMeets r flash store (carry_out tag asked' h) → DealMeets r flash store (carry_out tag asked h)
as_request r flash store tag asked asked' h e m =
    subst (λ (q : Request). DealMeets r flash store (carry_out tag q h)) (sym e) m

-- a request that brings no data is the operation that it starts
plain_carried : (tag : ℕ) (asked : Request) (h : Head) → OneOf (0 ∷ 1 ∷ 2 ∷ 3 ∷ 4 ∷ 5 ∷ 8 ∷ 9 ∷ 10 ∷ []) (tag_of requests.the_type asked)
    → operate (plain_start tag asked) [] h ≡ carry_out tag asked h
unfolding plain_start carry_out
plain_carried tag request.ChipInfo h k = refl
plain_carried tag request.FlashId h k = refl
plain_carried tag request.FlashInfo h k = refl
plain_carried tag request.Capability h k = refl
plain_carried tag (request.EraseLba first count) h k = refl
plain_carried tag (request.EraseForce first count) h k = refl
plain_carried tag (request.ReadLba first count) h k = absurd (miss (0 ∷ 1 ∷ 2 ∷ 3 ∷ 4 ∷ 5 ∷ 8 ∷ 9 ∷ 10 ∷ []) 6 tt k)
plain_carried tag (request.WriteLba first count fill) h k = absurd (miss (0 ∷ 1 ∷ 2 ∷ 3 ∷ 4 ∷ 5 ∷ 8 ∷ 9 ∷ 10 ∷ []) 7 tt k)
plain_carried tag (request.ResetDevice opcode) h k = refl
plain_carried tag request.Storage h k = refl
plain_carried tag (request.SwitchStorage index) h k = refl
plain_carried tag (request.WriteArea area n fill) h k = absurd (miss (0 ∷ 1 ∷ 2 ∷ 3 ∷ 4 ∷ 5 ∷ 8 ∷ 9 ∷ 10 ∷ []) 11 tt k)

pub plain : (r : Dealt) (flash store : List ℕ) (tag : ℕ) (asked : Request) (op : UsbOperation) (h : Head)
    → OneOf (0 ∷ 1 ∷ 2 ∷ 3 ∷ 4 ∷ 5 ∷ 8 ∷ 9 ∷ 10 ∷ []) (tag_of requests.the_type asked) → op ≡ plain_start tag asked
    → DealMeets r flash store (operate op [] h) → DealMeets r flash store (carry_out tag asked h)
plain r flash store tag asked op h k e m =
    subst (DealMeets r flash store) (ap (λ (o : UsbOperation). operate o [] h) e ∙ plain_carried tag asked h k) m

-- by what the block was read as
pub as_dealt : (r : Dealt) (flash store : List ℕ) (tag : ℕ) (block : List ℕ) (card : Result Request CardError) (h : Head) → card_told card ≡ read_card tag block
    → DealMeets r flash store (deal_asked tag (card_told card) h) → DealMeets r flash store (deal_block tag block h)
unfolding deal_block
as_dealt r flash store tag block card h e m = subst (λ (t : Told Request). DealMeets r flash store (deal_asked tag t h)) e m

pub asked_card : (card : Result Request CardError) (r : Dealt) (flash store : List ℕ) (asked : Request) (tag : ℕ) (h : Head) → card ≡ Ok asked
    → DealMeets r flash store (carry_out tag asked h) → DealMeets r flash store (deal_asked tag (card_told card) h)
unfolding deal_asked card_told
asked_card card r flash store asked tag h e m =
    subst (λ (a : Result Request CardError). DealMeets r flash store (deal_asked tag (card_told a) h)) (sym e) m

-- a block that asks for nothing is turned away by its number
away_by : (error : CardError) (tag : ℕ) (h : Head) → deal_asked tag (card_told (Err error)) h ≡ away (card_error_number error) h
unfolding deal_asked card_told
away_by card_error.Short tag h = refl
away_by card_error.BadCheck tag h = refl
away_by card_error.WithdrawnKind tag h = refl
away_by card_error.UnknownKind tag h = refl
away_by card_error.NotZero tag h = refl
away_by card_error.TooLarge tag h = refl
away_by card_error.UnknownReset tag h = refl

pub refused_card : (card : Result Request CardError) (error : CardError) → card ≡ Err error → (r : Dealt) (tag : ℕ) (device : MockState) (flash store : List ℕ) (n : ℕ)
    → n ≡ number_of card_error_number card → r ≡ turned_away n device → DealMeets r flash store (deal_asked tag (card_told card) (head device flash store))
refused_card card error is r tag device flash store n e m =
    let h = head device flash store in
    let away_so : deal_asked tag (card_told card) h ≡ away (card_error_number error) h =
    ap (λ (a : Result Request CardError). deal_asked tag (card_told a) h) is ∙ away_by error tag h in
    let told : n ≡ card_error_number error = e ∙ ap (number_of card_error_number) is in
    subst (DealMeets r flash store) (sym away_so)
    (subst (λ (d : Dealt). DealMeets d flash store (away (card_error_number error) h)) (sym (m ∙ ap (λ (i : ℕ). turned_away i device) told))
    (away_deal (card_error_number error) device flash store))
