-- Bytes write one line only, up to the places of its names.
use Rattle.std.proofs.Common.{◌≡◌, ℕ, cond, eqb, List, [], ◌∷◌, get_or, sym, refl, ap, ◌∙◌, arith, Bor}
use Rattle.std.specs.Str.Parse.{digits_value}
use Rattle.std.proofs.lemmas.Fmt.{digits_value-decimal}
use Rattle.text.specs.declared.line.Event.{Event}
use Rattle.text.specs.declared.line.Line.{Line}
use Rattle.text.specs.declared.line.Line.TheVariants.{Class, Link, Outage, Event as event}
use Rattle.text.specs.declared.line.Event.TheVariants.{Submit, Dispatch, Pulse, End, GiveUp}
use Rattle.text.specs.Words.{Small, numeral}
use Rattle.text.specs.Lines.{initial, fields, written, Proper}
use Rattle.text.specs.Cursor.{splits}
use Rattle.text.proofs.Forms.{heads, tails, splits_written}
use Rattle.text.proofs.Numbers.{own}

-- a name that stands nowhere
abbrev pub nowhere : List ℕ → Bor (List ℕ)
nowhere w = record { ref_ptr = (0, 0); now = w }

-- what an event and a line say, whatever the places of their names
abbrev pub said_event : Event → Event
said_event (Submit n c) = Submit (nowhere n.now) c
said_event Dispatch = Dispatch
said_event Pulse = Pulse
said_event End = End
said_event GiveUp = GiveUp

abbrev pub said : Line → Line
said (Class n p w) = Class (nowhere n.now) (nowhere p.now) w
said (Link r) = Link r
said (Outage o k) = Outage o k
said (event e) = event (said_event e)

-- the line of a letter and its words
number_at : List (List ℕ) → ℕ → ℕ
number_at ws i = digits_value 10 (get_or ws i [])

name_at : List (List ℕ) → ℕ → Bor (List ℕ)
name_at ws i = nowhere (get_or ws i [])

from_words : ℕ → List (List ℕ) → Line
from_words k ws =
    cond (eqb k 99) (Class (name_at ws 0) (name_at ws 1) (number_at ws 2))
    (cond (eqb k 108) (Link (number_at ws 0))
    (cond (eqb k 111) (Outage (number_at ws 0) (number_at ws 1))
    (cond (eqb k 97) (event (Submit (name_at ws 0) (number_at ws 1)))
    (cond (eqb k 100) (event Dispatch)
    (cond (eqb k 112) (event Pulse)
    (cond (eqb k 101) (event End) (event GiveUp)))))))

valued : (n : ℕ) → Small n → digits_value 10 (numeral n) ≡ n
valued n small = digits_value-decimal own n (omega arith)

said_from : (l : Line) → Proper l → from_words (initial l) (fields l) ≡ said l
unfolding from_words number_at name_at
said_from (Class n p w) h = ap (λ k. Class (nowhere n.now) (nowhere p.now) k) (valued w h.2)
said_from (Link r) h = ap Link (valued r h)
said_from (Outage o k) h = λ i. Outage (valued o h.0 i) (valued k h.1 i)
said_from (event (Submit n c)) h = ap (λ k. event (Submit (nowhere n.now) k)) (valued c h.1)
said_from (event Dispatch) h = refl
said_from (event Pulse) h = refl
said_from (event End) h = refl
said_from (event GiveUp) h = refl

pub written_once : (l m : Line) → Proper l → Proper m → written l ≡ written m → said l ≡ said m
written_once l m p q e =
    let all : (initial l ∷ []) ∷ fields l ≡ (initial m ∷ []) ∷ fields m = sym (splits_written l p) ∙ ap splits e ∙ splits_written m q in
    sym (said_from l p) ∙ (λ i. from_words (heads _ _ _ _ (heads _ _ _ _ all) i) (tails _ _ _ _ all i)) ∙ said_from m q
