-- A trace that is right so far, and one line more.
use Rattle.std.proofs.Common.{◌≡◌, ℕ, ◌+◌, ◌≤◌, true, false, List, [], ◌∷◌, ◌++◌, length, Some, None, Ok, Err, vec_items, Option, Result, Vec, sym, refl, ap, ◌∙◌, subst, ⊎_elim, append_assoc, append-nil, arith, length-append, MatchOption, MatchResult}
use Rattle.base.specs.declared.refusal.Refusal.{Refusal}
use Rattle.base.specs.declared.refusal.Refusal.TheVariants.{BadLine, OutOfPlace}
use Rattle.classes.specs.declared.draft.Draft.{Draft}
use Rattle.links.specs.declared.fixed.FixedLink.{FixedLink}
use Rattle.links.specs.declared.interrupted.Interrupted.{Interrupted}
use Rattle.links.specs.Listed.{listed}
use Rattle.std.specs.declared.alloc.Global.{Global}
use Rattle.std.specs.Option.{option_to_list}
use Rattle.std.specs.List.{AllByRecursion}
use Rattle.std.proofs.lemmas.List.{length_push, flat_map_more}
use Rattle.std.proofs.lemmas.Result.{MatchResult-weaker}
use Rattle.text.specs.declared.kind.Kind.{Kind}
use Rattle.text.specs.declared.line.Event.{Event}
use Rattle.text.specs.declared.line.Line.{Line}
use Rattle.text.specs.declared.line.Line.TheVariants.{Class, Link, Outage, Event as event}
use Rattle.text.specs.Kinds.{title}
use Rattle.text.specs.Lines.{written, Proper}
use Rattle.text.specs.Texts.{ended, Gives}
use Rattle.text.proofs.Ends.{shorter}
use Rattle.trace.specs.declared.fault.Misread.{Misread}
use Rattle.trace.specs.declared.reading.Reading.{Reading}
use Rattle.trace.specs.Faults.{misread, on, fault}
use Rattle.trace.specs.Makings.{Leads, named_by, rate_of, outage_of, event_of}
use Rattle.trace.specs.Parts.{part, may_follow}
use Rattle.trace.specs.Readings.{Begun, Rates, Taken, Stepped, Ends, Finished, follows, refused as refused_by}
use Rattle.trace.specs.Traces.{After, Fine, Takes, Right, misformed, misplaced, refused, Told, wrong, unrated, Written, Accepted, Wanting}
use Rattle.trace.proofs.Once.{told_not_written}
use Rattle.trace.proofs.Orders.{Ordered, ordered_none, ordered_more, next, late}

-- one line more
named_more : {X : Type 0} (f : Line → Option X) (ls : List Line) (l : Line) → named_by f (ls ++ l ∷ []) ≡ named_by f ls ++ option_to_list (f l)
named_more f ls l = sym (flat_map_more (λ m. option_to_list (f m)) [] ls l)

takes_more : (before : List Line) (c : Draft) (ls : List Line) (d : Draft) (l : Line) (e : Draft) → Takes before c ls d → Fine (before ++ ls) d l → Leads d l e → Takes before c (ls ++ l ∷ []) e
takes_more before c [] d l e old fine leads =
    (subst (λ b. Fine b c l) (append-nil before) (subst (λ x. Fine (before ++ []) x l) old fine), (e, subst (λ x. Leads x l e) old leads, refl))
takes_more before c (m ∷ ls) d l e old fine leads =
    (old.0, (old.1.0, old.1.1, takes_more (before ++ m ∷ []) old.1.0 ls d l e old.1.2 (subst (λ b. Fine b d l) (sym (append_assoc before (m ∷ []) ls)) fine) leads))

-- the link of the lines so far
abbrev pub Rated : List Line → Option FixedLink → Type 0
Rated ls x = MatchOption x (named_by rate_of ls ≡ []) (λ y. (named_by rate_of ls ≡ y.rate ∷ []) × (y.done.0 ≡ 0))

-- before a link line stand classes only
no_rates : (r : ℕ) (ls : List Line) → AllByRecursion (After (Link r)) ls → named_by rate_of ls ≡ []
no_rates r [] h = refl
no_rates r (Class n p w ∷ ls) h = no_rates r ls h.1
no_rates r (Link q ∷ ls) h = cc h.0
no_rates r (Outage o k ∷ ls) h = cc h.0
no_rates r (event e ∷ ls) h = cc h.0

rated_same : (ls : List Line) (l : Line) (x y : Option FixedLink) → rate_of l ≡ None → y ≡ x → Rated ls x → Rated (ls ++ l ∷ []) y
rated_same ls l x y none same old =
    let e : named_by rate_of (ls ++ l ∷ []) ≡ named_by rate_of ls = named_more rate_of ls l ∙ ap (λ o. named_by rate_of ls ++ option_to_list o) none ∙ append-nil _ in
    subst (Rated (ls ++ l ∷ [])) (sym same) (subst (λ rs. MatchOption x (rs ≡ []) (λ y. (rs ≡ y.rate ∷ []) × (y.done.0 ≡ 0))) (sym e) old)

rated_set : (r : ℕ) (ls : List Line) (y : Option FixedLink) → AllByRecursion (After (Link r)) ls → Rates None (Link r) y → Rated (ls ++ Link r ∷ []) y
rated_set r ls None after h = absurd h
rated_set r ls (Some x) after h = (named_more rate_of ls (Link r) ∙ ap (λ rs. rs ++ r ∷ []) (no_rates r ls after) ∙ ap (λ q. q ∷ []) (sym h.0), h.1)

rated_more : (ls : List Line) (l : Line) (x y : Option FixedLink) → AllByRecursion (After l) ls → Rated ls x → Rates x l y → Rated (ls ++ l ∷ []) y
rated_more ls (Class n p w) x y after old h = rated_same ls (Class n p w) x y refl h old
rated_more ls (Link r) x y after old h = rated_set r ls y after h
rated_more ls (Outage o k) x y after old h = rated_same ls (Outage o k) x y refl h old
rated_more ls (event e) x y after old h = rated_same ls (event e) x y refl h old

-- what the loop over the lines knows
pub record Sofar (bs : List ℕ) (k : Kind) (rest : List ℕ) (number : ℕ) (s : Reading) (es : List Event) : Type 0 where
  pub lines : List Line
  pub right : Right bs k lines rest s.draft
  pub count : length lines + 1 ≡ number
  pub ordered : Ordered s.latest lines
  pub link : Rated lines s.link
  pub outages : listed s.outages ≡ named_by outage_of lines
  pub events : es ≡ named_by event_of lines
  pub room : number + length rest ≤ 32769

pub begun : (bs : List ℕ) (k : Kind) (rest : List ℕ) (s : Reading) (es : List Event) → length bs ≤ 32768 → title k ++ 10 ∷ rest ≡ bs → Begun s → es ≡ [] → Sofar bs k rest 1 s es
begun bs k rest s es short whole first none = record {
  lines = [];
  right = record { short = short; whole = whole; root = s.draft; bare = first.draft; taken = refl };
  count = refl;
  ordered = subst (λ p. Ordered p []) (sym first.latest) ordered_none;
  link = subst (Rated []) (sym first.link) refl;
  outages = first.outages;
  events = none;
  room = omega (arith, short, ap length (sym whole) ∙ length-append (title k) (10 ∷ rest));
}

module _ (bs : List ℕ) (k : Kind) (rest : List ℕ) (number : ℕ) (s : Reading) (es : List Event) (old : Sofar bs k rest number s es) where
  module _ (l : Line) (more : List ℕ) (cut : rest ≡ written l ++ 10 ∷ more) (form : Proper l) where
    step : ended (old.lines ++ l ∷ []) ++ more ≡ ended old.lines ++ rest
    step =
        ap (λ z. z ++ more) (sym (flat_map_more (λ m. written m ++ 10 ∷ []) [] old.lines l))
        ∙ append_assoc (ended old.lines) (written l ++ 10 ∷ []) more
        ∙ ap (λ z. ended old.lines ++ z) (append_assoc (written l) (10 ∷ []) more ∙ sym cut)

    one_more : (o : Option Event) (t : Reading) → may_follow (part l) s.latest ≡ true → Taken (follows s (part l)) l (Ok o) t → Sofar bs k more (number + 1) t (es ++ option_to_list o)
    one_more o t may taken =
        let moved = taken.2 in
        let after = next s.latest old.lines old.ordered l may in
        record {
          lines = old.lines ++ l ∷ [];
          right = record {
            short = old.right.short;
            whole = ap (λ z. title k ++ 10 ∷ z) step ∙ old.right.whole;
            root = old.right.root;
            bare = old.right.bare;
            taken = takes_more [] old.right.root old.lines s.draft l t.draft old.right.taken (record { form = form; order = after; taken = rw old.outages at taken.0 }) moved.draft;
          };
          count = omega (arith, length_push old.lines l, old.count);
          ordered = subst (λ p. Ordered p (old.lines ++ l ∷ [])) (sym moved.latest) (ordered_more s.latest old.lines old.ordered l may);
          link = rated_more old.lines l s.link t.link after old.link moved.link;
          outages = moved.outages ∙ ap (λ xs. xs ++ option_to_list (outage_of l)) old.outages ∙ sym (named_more outage_of old.lines l);
          events = ap (λ xs. xs ++ option_to_list o) old.events ∙ ap (λ x. named_by event_of old.lines ++ option_to_list x) taken.1 ∙ sym (named_more event_of old.lines l);
          room = omega (arith, old.room, shorter rest (written l) more cut);
        }

    -- a line that is out of its part, or that the tree or the link refuses
    told_place : may_follow (part l) s.latest ≡ false → Told bs (fault (length old.lines + 2) OutOfPlace)
    told_place no_way = wrong k old.lines rest s.draft OutOfPlace old.right (misplaced l more cut form (late s.latest old.lines old.ordered l no_way))

    told_refusal : (e : Refusal) → may_follow (part l) s.latest ≡ true → refused_by s l ≡ Some e → Told bs (fault (length old.lines + 2) e)
    told_refusal e may is =
        wrong k old.lines rest s.draft e old.right (refused l more e cut form (next s.latest old.lines old.ordered l may) (rw old.outages at is))

  -- the fault at its line's number
  at_next : (e : Refusal) (m : Misread) → m ≡ misread e → Told bs (fault (length old.lines + 2) e) → Told bs (on (number + 1) m)
  at_next e m is told =
      let line : length old.lines + 2 ≡ number + 1 = omega (arith, old.count) in
      subst (λ n. Told bs (on n m)) line (subst (λ x. Told bs (on (length old.lines + 2) x)) (sym is) told)

  -- the next line: either the same is known behind it, or it has the first fault
  pub stepped : (more : List ℕ) (t : Reading) (r : Result (Option Event) Misread) (line : Result Line Refusal) → Gives rest more line → Stepped s line r t → MatchResult r (λ o. Sofar bs k more (number + 1) t (es ++ option_to_list o)) (λ m. Told bs (on (number + 1) m))
  stepped more t r (Err e) form h =
      rw h (at_next BadLine (misread e) (ap misread form.0) (wrong k old.lines rest s.draft BadLine old.right (misformed form.1)))
  stepped more t r (Ok l) form h =
      ⊎_elim
      (λ w. MatchResult-weaker r w.1 (λ o taken. one_more l more form.1 form.0 o t w.0 taken) (λ m bad. at_next m.refusal m bad.1 (told_refusal l more form.1 form.0 m.refusal w.0 bad.0)))
      (λ w. rw w.1 (at_next OutOfPlace (misread OutOfPlace) refl (told_place l more form.1 form.0 w.0)))
      h

  -- the end of the text: what it writes, or a missing rate
  pub finished : rest ≡ [] → (r : Result (Draft × Interrupted FixedLink) Misread) → Finished s r → MatchResult r (λ p. (v : Vec Event Global) → vec_items v ≡ es → Accepted bs (record { kind = k; draft = p.0; link = p.1; events = v })) (λ m. Told bs (on number m))
  finished end r fin = go s.link old.link fin
    where
      right_end : Right bs k old.lines [] s.draft
      right_end = subst (λ z. Right bs k old.lines z s.draft) end old.right

      go : (x : Option FixedLink) → Rated old.lines x → Ends s x r → MatchResult r (λ p. (v : Vec Event Global) → vec_items v ≡ es → Accepted bs (record { kind = k; draft = p.0; link = p.1; events = v })) (λ m. Told bs (on number m))
      go None none h = rw h (subst (λ n. Told bs (on n (misread OutOfPlace))) old.count (unrated k old.lines s.draft right_end none))
      go (Some x) rated h =
          rw h (λ v items.
          let here : Written bs (record { kind = k; draft = s.draft; link = record { below = x; outages = s.outages; count = 0 }; events = v }) = record {
            lines = old.lines;
            right = right_end;
            linked = record { rate = rated.0; done = rated.1; outages = old.outages; count = refl };
            events = items ∙ old.events;
          } in
          record { written = here; faultless = λ f told. told_not_written bs f _ told here })

-- memory was wanting for the last line's event
pub wanting : (bs : List ℕ) (k : Kind) (rest : List ℕ) (number : ℕ) (s : Reading) (es : List Event) (e : Event) → Sofar bs k rest number s (es ++ e ∷ []) → Wanting bs
wanting bs k rest number s es e new =
    record { kind = k; lines = new.lines; rest = rest; draft = s.draft; right = new.right; some = omega (arith, length-append es (e ∷ []), ap length new.events) }
