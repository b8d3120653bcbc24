-- What a player has played after one event more.
use Rattle.std.proofs.Common.{◌≡◌, ℕ, ◌+◌, ◌<◌, ◌≤◌, true, cond, not, ◌||◌, eqb, List, [], ◌∷◌, ◌++◌, Some, None, Ok, Err, codes, decimal, Option, Result, sym, refl, ap, ◌∙◌, subst, zero-add, arith}
use lib.Utf8.{encode}
use Rattle.std.proofs.lemmas.Bool.{le-ltb}
use Rattle.std.proofs.lemmas.Result.{err_from_is_err_and}
use Rattle.std.specs.Result.{IsErrAnd}
use Rattle.base.specs.declared.units.Parts.{Parts}
use Rattle.base.specs.declared.units.Units.{Units}
use Rattle.base.specs.declared.refusal.Refusal.{Refusal}
use Rattle.base.specs.declared.refusal.Refusal.TheVariants.{UnknownClass, TurnOpen, WrongGrant}
use Rattle.classes.specs.declared.table.ClassTable.{ClassTable}
use Rattle.classes.specs.declared.name.Name.{Name}
use Rattle.classes.specs.Names.{text_of}
use Rattle.classes.specs.Tables.{class_count, shape_of, name_of}
use Rattle.links.specs.declared.server.Server.{Ghosts as Server}
use Rattle.listing.specs.declared.line.Line.TheVariants.{Event as event}
use Rattle.listing.specs.declared.line.Outcome.{Outcome}
use Rattle.listing.specs.declared.line.Outcome.TheVariants.{Accepted, Granted, Charged}
use Rattle.listing.specs.Lines.{outcome, ended}
use Rattle.rules.specs.Kind.{Kind}
use Rattle.rules.specs.Laws.{Kept, Lasts}
use Rattle.rules.specs.Shape.{under}
use Rattle.rules.specs.State.{Opening, is_open}
use Rattle.rules.specs.Rules.{Grant, Call, Answer, refused, accepted, granted, worked, closed, submit, dispatch, pulse, end_turn, give_up, wrong_grant, Step}
use Rattle.rules.specs.History.{Entry, entry, Run, made, Service, turn_after, grant_after, grant_of as service-grant, done_more, serves_by, charge, charges}
use Rattle.rules.proofs.Calls.{refuse}
use Rattle.rules.proofs.Consistent.{consistent}
use Rattle.tags.specs.declared.TagStore.{Ghosts as TagStore}
use Rattle.text.specs.declared.line.Event.{Event}
use Rattle.text.specs.declared.line.Event.TheVariants.{Dispatch, Pulse, End, GiveUp}
use Rattle.tree.specs.Draws.{Drew}
use Rattle.tree.specs.declared.tree.Grant as Grants
use Rattle.play.specs.declared.player.Player.{Player}
use Rattle.play.specs.declared.player.Turn.{Turn}
use Rattle.play.specs.Calls.{open_grant, call_of}
use Rattle.play.specs.Charges.{charged_at, more}
use Rattle.play.specs.Lines.{letter, told_start, told}
use Rattle.play.specs.Players.{HeldTurn, state, Follows, PlaysOn}
use Rattle.play.specs.Plays.{Plays, played, Served}
use Rattle.play.proofs.Charging.{more_is}
use Rattle.play.proofs.Histories.{runs, none_open, some_open, root_most, turn_known}
use Rattle.play.proofs.Turns.{unheld, held_open, held_more, drawn}

-- the same events, written another way
pub follows_as : {T I S : Type 0} {H : TagStore T} (K : Kind I) (V : Server S) (new : ℕ → I) {t : ClassTable} {o : Opening} {first : S} {es es' : List Event} {h : List (Entry I)} {bs : List ℕ} {p : Player T I S H K} →
    es ≡ es' → Follows K V new t o first es h bs p → Follows K V new t o first es' h bs p
follows_as K V new {t} {o} {first} {h = h} {bs = bs} {p = p} e f = subst (λ es. Follows K V new t o first es h bs p) e f

-- the event in another form
pub as_event : {T I S : Type 0} {H : TagStore T} (K : Kind I) (V : Server S) (new : ℕ → I) {p q : Player T I S H K} {e e' : Event} (r : Result Outcome Refusal) → e ≡ e' → PlaysOn K V new p e' r q → PlaysOn K V new p e r q
as_event K V new {p = p} {q = q} r is plays = subst (λ e. PlaysOn K V new p e r q) (sym is) plays

module _ {T I S : Type 0} {H : TagStore T} (K : Kind I) (V : Server S) (new : ℕ → I) {t : ClassTable} {o : Opening} {first : S} {es : List Event} {h : List (Entry I)} {bs : List ℕ} {p : Player T I S H K} (f : Follows K V new t o first es h bs p) where
  -- the calls so far are a history of the rules
  pub ran : Run K o h (state V p)
  ran = runs K V new t o first f.plays

  -- the classes are those of the opening
  pub shaped : shape_of t ≡ o.shape
  shaped = sym (ap shape_of f.table) ∙ (consistent K o ran).frame.1

  -- the event is played
  abbrev pub Next : Event → Result Outcome Refusal → Player T I S H K → Type 0
  Next e r q = (a : Answer) × Step K (state V p) (call_of new t h e) a (state V q) × Follows K V new t o first (es ++ e ∷ []) (entry (call_of new t h e) a ∷ h) (bs ++ ended (event (letter e) r)) q

  -- an event more, whatever its call charges
  pub onward : (q : Player T I S H K) (e : Event) (a : Answer) (r : Result Outcome Refusal) (c : Call I) → c ≡ call_of new t h e → q.tree.queue.table ≡ p.tree.queue.table →
      Step K (state V p) c a (state V q) → Served V (state V p) a p.link q.link → told t (state V q).tags.start a ≡ outcome r →
      HeldTurn (turn_after (entry c a ∷ h)) q.held →
      ((k : ℕ) → charged_at q.charges k ≡ charge (shape_of t) k (entry c a) h + charged_at p.charges k) →
      Next e r q
  onward q e a r c is same step served says turn more = let call = subst (λ c. Step K (state V p) c a (state V q)) is step in (
    a,
    call,
    record {
      valid = f.valid;
      table = same ∙ f.table;
      plays = subst (λ z. Plays K V new t o first (es ++ e ∷ []) (entry (call_of new t h e) a ∷ h) (state V q) q.link (bs ++ ((encode (letter e) ++ z) ++ 10 ∷ []))) says
          (played e a (state V q) q.link f.plays call served refl);
      turn = turn;
      charged = λ k. more k ∙ ap (λ n. charge (shape_of t) k (entry (call_of new t h e) a) h + n) (f.charged k);
    },
  )

  -- .. where it charges nothing, and the charges are as they were
  pub uncharged : (q : Player T I S H K) → q.charges ≡ p.charges → (k : ℕ) → charged_at q.charges k ≡ 0 + charged_at p.charges k
  uncharged q same k = ap (λ c. charged_at c k) same ∙ sym (zero-add _)

  -- a call is refused
  pub refused_on : (q : Player T I S H K) (e : Event) (c : Call I) → c ≡ call_of new t h e → (n : Refusal) → q.tree.queue.table ≡ p.tree.queue.table →
      Step K (state V p) c (refused n) (state V q) → q.link ≡ p.link → HeldTurn (turn_after h) q.held → q.charges ≡ p.charges → Next e (Err n) q
  refused_on q e c is n same step still turn charges = onward q e (refused n) (Err n) c is same step still refl turn (uncharged q charges)

  -- a submission is accepted
  pub accepted_on : (q : Player T I S H K) (e : Event) (c : Call I) → c ≡ call_of new t h e → q.tree.queue.table ≡ p.tree.queue.table →
      Step K (state V p) c accepted (state V q) → q.link ≡ p.link → HeldTurn (turn_after h) q.held → q.charges ≡ p.charges → Next e (Ok Accepted) q
  accepted_on q e c is same step still turn charges = onward q e accepted (Ok Accepted) c is same step still refl turn (uncharged q charges)

  -- a dispatch answers a class of the tree
  granted_known : (q : Player T I S H K) (g : Grant) (k n : ℕ) → Step K (state V p) dispatch (granted g k n) (state V q) → k < class_count t
  granted_known q g k n step = subst (λ x. k < x.count) (sym shaped) (turn_known K o (made {e = entry dispatch (granted g k n)} ran step) f.valid (record { grant = g; leaf = k; done = 0 }) refl)

  -- .. and is told with that class's name and start tag
  pub granted_on : (q : Player T I S H K) (g : Grant) (k n : ℕ) (name : Name) (start : Parts) → q.tree.queue.table ≡ p.tree.queue.table →
      Step K (state V p) dispatch (granted g k n) (state V q) → q.link ≡ p.link → HeldTurn (Some (record { grant = g; leaf = k; done = 0 })) q.held → q.charges ≡ p.charges →
      (k < (class_count q.tree.queue.table) → text_of name ≡ name_of q.tree.queue.table k) → (k < (class_count q.tree.queue.table) → told_start (state V q).tags.start k ≡ start.0) → Next Dispatch (Ok (Granted name n start)) q
  granted_on q g k n name start same step still turn charges names starts =
      let known : k < (class_count q.tree.queue.table) = subst (λ x. k < class_count x) (sym (same ∙ f.table)) (granted_known q g k n step) in
      let named : name_of t k ≡ text_of name = ap (λ x. name_of x k) (sym (same ∙ f.table)) ∙ sym (names known) in
      onward q Dispatch (granted g k n) (Ok (Granted name n start)) dispatch refl same step still
      (ap (λ x. codes " 0 " ++ (x ++ (codes " " ++ (decimal n ++ (codes " " ++ decimal (told_start (state V q).tags.start k)))))) named
      ∙ ap (λ x. codes " 0 " ++ (text_of name ++ (codes " " ++ (decimal n ++ (codes " " ++ decimal x))))) (starts known))
      turn (uncharged q charges)

  -- a refusal that is handed on
  pub handed_on : {q : Player T I S H K} (e : Event) (n : Refusal) (r : Result Outcome Refusal) → IsErrAnd r (λ x. x ≡ n) → Next e (Err n) q → Next e r q
  handed_on {q} e n r failed next = let (_, is, same) = err_from_is_err_and r failed in subst (λ r. Next e r q) (sym (is ∙ ap Err same)) next

  -- a name that no class has
  pub no_class : (e : Event) (x : I) → submit 64 x ≡ call_of new t h e → Next e (Err UnknownClass) p
  no_class e x is = refused_on p e (submit 64 x) is UnknownClass refl (refuse K (state V p) (submit 64 x) 0 UnknownClass (ap not (le-ltb 64 (class_count p.tree.queue.table) p.tree.queue.table.few), refl)) refl f.turn refl

  -- the same player with its turn written again
  pub same_held : (y : Option Turn) → p.held ≡ y → (e : Event) (r : Result Outcome Refusal) → Next e r p → Next e r (record { tree = p.tree; shelf = p.shelf; link = p.link; held = y; charges = p.charges })
  same_held y is e r n = subst (λ y. Next e r (record { tree = p.tree; shelf = p.shelf; link = p.link; held = y; charges = p.charges })) is n

  -- a player without a turn: whatever takes a grant is refused
  module _ (none : p.held ≡ None) where
    closed_phase : (state V p).phase ≡ None
    closed_phase = none_open K o ran (unheld (turn_after h) p.held f.turn none)

    no_grant : (g : Grant) → wrong_grant (state V p) g ≡ true
    no_grant g = ap (λ x. not (is_open x) || not (eqb g.house (state V p).house) || not (eqb g.turn (state V p).turns)) closed_phase

    refused_without : (e : Event) (c : Call I) → c ≡ call_of new t h e → Step K (state V p) c (refused WrongGrant) (state V p) → Next e (Err WrongGrant) p
    refused_without e c is step = refused_on p e c is WrongGrant refl step refl f.turn refl

    pub no_pulse : Next Pulse (Err WrongGrant) p
    no_pulse = refused_without Pulse (pulse (open_grant (grant_after h))) refl (refuse K (state V p) (pulse (open_grant (grant_after h))) 0 WrongGrant (no_grant (open_grant (grant_after h)), refl))

    pub no_end : Next End (Err WrongGrant) p
    no_end = refused_without End (end_turn (open_grant (grant_after h))) refl (refuse K (state V p) (end_turn (open_grant (grant_after h))) 0 WrongGrant (no_grant (open_grant (grant_after h)), refl))

    pub no_give_up : Next GiveUp (Err WrongGrant) p
    no_give_up = refused_without GiveUp (give_up (open_grant (grant_after h))) refl (refuse K (state V p) (give_up (open_grant (grant_after h))) 0 WrongGrant (no_grant (open_grant (grant_after h)), refl))

  -- a player with a turn
  module _ (u : Turn) (some : p.held ≡ Some u) where
    pub open_one : (v : Service) × (turn_after h ≡ Some v) × (v.grant ≡ record { house = u.grant.house; turn = u.grant.turn }) × (v.leaf ≡ u.class)
    open_one = held_open (turn_after h) p.held u f.turn some

    pub no_dispatch : Next Dispatch (Err TurnOpen) p
    no_dispatch =
        let (v, is, _, _) = open_one in
        let (w, opened, _) = some_open K o ran v is in
        refused_on p Dispatch dispatch refl TurnOpen refl (refuse K (state V p) dispatch 0 TurnOpen (ap is_open opened, refl)) refl f.turn refl

    -- it is called by its grant
    pub own_grant : record { house = u.grant.house; turn = u.grant.turn } ≡ open_grant (grant_after h)
    own_grant = let (v, is, same, _) = open_one in sym (ap (λ x. open_grant (service-grant x)) is ∙ same)

    -- a pulse
    pub pulsed_on : (q : Player T I S H K) (d : Units) → q.tree.queue.table ≡ p.tree.queue.table → Step K (state V p) (pulse (record { house = u.grant.house; turn = u.grant.turn })) (worked d.0) (state V q) →
        Drew V.draws p.tree.phase (Ok d) p.link q.link → q.held ≡ p.held → q.charges ≡ p.charges → Next Pulse (Ok (Charged d)) q
    pulsed_on q d same step drew still charges =
        onward q Pulse (worked d.0) (Ok (Charged d)) (pulse (record { house = u.grant.house; turn = u.grant.turn })) (ap pulse own_grant) same step (drawn V.draws p.tree.phase d p.link q.link drew) refl
        (subst (HeldTurn (done_more d.0 (turn_after h))) (sym still) (held_more d.0 (turn_after h) p.held f.turn)) (uncharged q charges)

    -- what a closing charges
    pub charges_more : (q : Player T I S H K) (c : Call I) (d : ℕ) → Kept K o (entry c (closed d) ∷ h) (state V q) → Run K o (entry c (closed d) ∷ h) (state V q) → q.tree.queue.table ≡ t →
        (u.class < (class_count q.tree.queue.table) → (k : ℕ) → charged_at q.charges k ≡ cond (under (shape_of q.tree.queue.table) k u.class) (more (charged_at p.charges k) d) (charged_at p.charges k)) →
        (k : ℕ) → charged_at q.charges k ≡ charge (shape_of t) k (entry c (closed d)) h + charged_at p.charges k
    charges_more q c d kept run same add k =
        let (v, is, _, leaf) = open_one in
        let served : serves_by (shape_of t) k (turn_after h) ≡ under (shape_of q.tree.queue.table) k u.class = ap (serves_by (shape_of t) k) is ∙ ap (under (shape_of t) k) leaf ∙ ap (λ x. under (shape_of x) k u.class) (sym same) in
        let known : u.class < (class_count q.tree.queue.table) = subst (λ x. u.class < class_count x) (sym same) (subst (λ n. n < (class_count t)) leaf (subst (λ x. v.leaf < x.count) (sym shaped) (turn_known K o ran f.valid v is))) in
        let most : charge (shape_of t) k (entry c (closed d)) h + charges (shape_of t) k h ≤ charges o.shape 0 (entry c (closed d) ∷ h) =
        subst (λ x. charges x k (entry c (closed d) ∷ h) ≤ charges o.shape 0 (entry c (closed d) ∷ h)) (sym shaped) (root_most K o f.valid run k) in
        let fits : cond (serves_by (shape_of t) k (turn_after h)) d 0 + charged_at p.charges k ≤ 1000000000000 = omega (arith, most, f.charged k, kept.metered.meter, q.tree.metered) in
        more_is (serves_by (shape_of t) k (turn_after h)) (charged_at p.charges k) d (charged_at q.charges k) fits
        (add known k ∙ ap (λ b. cond b (more (charged_at p.charges k) d) (charged_at p.charges k)) (sym served))

    -- a closing
    pub closed_on : (q : Player T I S H K) (e : Event) (c : Call I) → c ≡ call_of new t h e → (d : Units) → q.tree.queue.table ≡ p.tree.queue.table →
        Step K (state V p) c (closed d.0) (state V q) → Lasts K (state V p) c (closed d.0) (state V q) → q.link ≡ p.link → q.held ≡ None →
        (u.class < (class_count q.tree.queue.table) → (k : ℕ) → charged_at q.charges k ≡ cond (under (shape_of q.tree.queue.table) k u.class) (more (charged_at p.charges k) d.0) (charged_at p.charges k)) → Next e (Ok (Charged d)) q
    closed_on q e c is d same step lasts still none add =
        let (run, kept) = lasts o f.valid h ran in
        onward q e (closed d.0) (Ok (Charged d)) c is same step still refl (subst (HeldTurn None) (sym none) tt) (charges_more q c d.0 kept run (same ∙ f.table) add)

    -- a closing that is refused brings the grant back
    pub turn_back : (y : Option Turn) (g : Grants.Grant) → g ≡ u.grant → y ≡ Some (record { grant = g; class = u.class }) → HeldTurn (turn_after h) y
    turn_back y g same is = subst (HeldTurn (turn_after h)) (some ∙ sym (is ∙ ap (λ g. Some (record { grant = g; class = u.class })) same)) f.turn
