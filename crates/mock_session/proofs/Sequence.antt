-- A sequence of thin calls is the same sequence by value: it ends in what `calls_by` says, and a run of it through the lent record and one by value
-- agree in every call.
-- Each call's contract fixes all that the next is handed, so both go by induction on the calls.
use Prim.Native.Nat.{ℕ}
use mathlib.Core.Path.{◌≡◌, refl, ap₂, sym, subst, ◌∙◌}
use mathlib.Core.List.{List, [], ◌∷◌, map}
use Rattle.mock_base.specs.Told.{Answers}
use Rattle.mock_base.specs.declared.error.MockAnswer.{MockAnswer}
use Rattle.mock_base.proofs.Unique.{answers_unique}
use Rattle.mock_table.specs.declared.session.Session.{Session}
use Rattle.mock_effects.specs.Steps.{Step, StepMeets}
use Rattle.mock_session.specs.Lent.{CallMeets}
use Rattle.mock_session.specs.Calls.{Call, start, write, read, Came, call_by, calls_by, AllAnswer, CallsMeet}
use Rattle.mock_session.specs.Sequence.{Made, step_of, Lent, ByValue, Run, last_session, last_flash}

-- a call that comes to this
record Comes (m : Made) (c : Came) : Type 0 where
  tells : Answers m.answer c.told
  next : m.session ≡ c.session
  leaves : m.flash ≡ c.flash
  fills : m.buffer ≡ c.buffer

comes : (c : Call) (s : Session) (flash : List ℕ) (m : Made) → Lent c s flash m → Comes m (call_by c s flash)
unfolding Lent call_by
comes start s flash m h = record { tells = h.0.tells; next = h.0.next; leaves = h.1; fills = h.2 }
comes (write bytes) s flash m h = record { tells = h.0.tells; next = h.0.next; leaves = h.0.leaves; fills = h.1 }
comes (read config buffer) s flash m h = record { tells = h.0.tells; next = h.0.next; leaves = h.1; fills = h.0.leaves }

-- what the rest comes to from where a call left, it comes to from where the call by value leaves
onto : (cs : List Call) (m : Made) (c : Came) → Comes m c → {answers : List MockAnswer} {buffers : List (List ℕ)} {s : Session} {flash : List ℕ}
    → CallsMeet answers buffers s flash (calls_by cs m.session m.flash) → CallsMeet answers buffers s flash (calls_by cs c.session c.flash)
onto cs m c d {answers} {buffers} {s} {flash} h =
    subst (λ (z : Session). CallsMeet answers buffers s flash (calls_by cs z c.flash)) d.next
    (subst (λ (z : List ℕ). CallsMeet answers buffers s flash (calls_by cs m.session z)) d.leaves h)

-- a run through the lent record ends in what the sequence by value comes to
pub ends : (cs : List Call) (s : Session) (flash : List ℕ) (ms : List Made) → Run Lent cs s flash ms
    → CallsMeet (map (λ (m : Made). m.answer) ms) (map (λ (m : Made). m.buffer) ms) (last_session ms s) (last_flash ms flash) (calls_by cs s flash)
unfolding Run last_session last_flash calls_by AllAnswer
ends [] s flash [] h = record { tells = tt; leaves = refl; next = refl; flash_left = refl }
ends [] s flash (m ∷ ms) h = absurd h
ends (c ∷ cs) s flash [] h = absurd h
ends (c ∷ cs) s flash (m ∷ ms) h =
    let d = comes c s flash m h.0 in
    let e = onto cs m (call_by c s flash) d (ends cs m.session m.flash ms h.1) in
    record { tells = (d.tells, e.tells); leaves = ap₂ ◌∷◌ d.fills e.leaves; next = e.next; flash_left = e.flash_left }

-- a call by value is held to what a thin call is
as_call : (m : Made) (after : List ℕ) (t : Step) → StepMeets (step_of m) after t → CallMeets m.answer m.session after t
as_call m after t h = record { tells = h.tells; next = h.next; leaves = h.leaves }

as_lent : (c : Call) (s : Session) (flash : List ℕ) (m : Made) → ByValue c s flash m → Lent c s flash m
unfolding Lent ByValue
as_lent start s flash m h = (as_call m _ _ h.0, h.1, h.2)
as_lent (write bytes) s flash m h = (as_call m _ _ h.0, h.1)
as_lent (read config buffer) s flash m h = (as_call m _ _ h.0, h.1)

same_call : (m v : Made) (c : Came) → Comes m c → Comes v c → m ≡ v
same_call m v c d e i =
    record {
      answer = answers_unique m.answer v.answer c.told d.tells e.tells i;
      session = (d.next ∙ sym e.next) i;
      flash = (d.leaves ∙ sym e.leaves) i;
      buffer = (d.fills ∙ sym e.fills) i;
    }

-- the same calls through the lent record and by value: every answer, every record, every flash and every buffer on the way is the same
pub same_run : (cs : List Call) (s : Session) (flash : List ℕ) (ms vs : List Made) → Run Lent cs s flash ms → Run ByValue cs s flash vs → ms ≡ vs
unfolding Run
same_run [] s flash [] [] h k = refl
same_run [] s flash [] (v ∷ vs) h k = absurd k
same_run [] s flash (m ∷ ms) vs h k = absurd h
same_run (c ∷ cs) s flash [] vs h k = absurd h
same_run (c ∷ cs) s flash (m ∷ ms) [] h k = absurd k
same_run (c ∷ cs) s flash (m ∷ ms) (v ∷ vs) h k =
    let e = same_call m v (call_by c s flash) (comes c s flash m h.0) (comes c s flash v (as_lent c s flash v k.0)) in
    ap₂ ◌∷◌ e (same_run cs m.session m.flash ms vs h.1 (subst (λ (z : Made). Run ByValue cs z.session z.flash vs) (sym e) k.1))
