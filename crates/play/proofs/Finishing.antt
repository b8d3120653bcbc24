-- The end of a trace.
use Rattle.std.proofs.Common.{◌≡◌, ℕ, true, List, [], ◌∷◌, ◌++◌, is_some, IfOk, Some, None, Ok, Err, string_bytes, Option, Result, String, sym, refl, ap, ◌∙◌, subst}
use Rattle.std.specs.declared.alloc.AllocError.{AllocError}
use Rattle.std.specs.declared.alloc.Global.{Global}
use Rattle.std.proofs.lemmas.Bool.{both_ways}
use Rattle.base.specs.declared.refusal.Refusal.{Refusal}
use Rattle.classes.specs.declared.draft.Draft.{Draft}
use Rattle.classes.specs.declared.table.ClassTable.{ClassTable}
use Rattle.classes.specs.Tables.{class_count, shape_of}
use Rattle.links.specs.declared.server.Server.{Ghosts as Server}
use Rattle.rules.specs.Kind.{Kind, KindLaws}
use Rattle.rules.specs.State.{State, Opening, Valid, fresh, open_turn}
use Rattle.rules.specs.Ready.{is_accepted}
use Rattle.rules.specs.Rules.{Grant, Answer, closed, give_up, refusal, Says, Step}
use Rattle.rules.specs.History.{Entry, entry, Run, turn_after, grant_after, charges, grant_of as service-grant}
use Rattle.rules.proofs.Lawful.{lawful}
use Rattle.listing.specs.declared.listing.Listing.{Listing}
use Rattle.listing.specs.Listings.{Holds}
use Rattle.shelf.specs.Lanes.{room}
use Rattle.shelf.specs.declared.shelf.Shelf.{Shelf}
use Rattle.tags.specs.declared.TagStore.{Ghosts as TagStore}
use Rattle.text.specs.declared.line.Event.{Event}
use Rattle.text.specs.declared.line.Event.TheVariants.{GiveUp}
use Rattle.tree.specs.Trees.{state_of, opening}
use Rattle.tree.specs.declared.tree.Tree.{Tree}
use Rattle.play.specs.declared.charges.Charges.{Charges}
use Rattle.play.specs.declared.player.Player.{Player}
use Rattle.play.specs.declared.player.Turn.{Turn}
use Rattle.play.specs.Calls.{open_grant}
use Rattle.play.specs.Charges.{charged_at}
use Rattle.play.specs.Listings.{Ends, at_rest, given_up, sums, Lists}
use Rattle.play.specs.Players.{HeldTurn, state, Follows, PlaysAll, Rests, Finishes}
use Rattle.play.specs.Plays.{Plays, begun}
use Rattle.play.proofs.Histories.{runs, accepted_up}
use Rattle.play.proofs.Onward.{ran, open_one}
use Rattle.play.proofs.Sums.{sums_same}
use Rattle.play.proofs.Turns.{unheld, none_held}

-- a giving up that is accepted closes
closes : {I : Type 0} (K : Kind I) (s : State I) (g : Grant) (a : Answer) (s' : State I) → Step K s (give_up g) a s' → is_accepted a ≡ true → (d : ℕ) × (a ≡ closed d)
closes K s g a s' st taken = by (refusal K s (give_up g)) st
  where
    by : (x : Option Refusal) → Says K x s (give_up g) a s' → (d : ℕ) × (a ≡ closed d)
    by (Some e) q = absurd (both_ways (is_accepted a) (ap is_accepted q.0) taken)
    by None q = ((open_turn s).done, q.2)

-- the calls are a history of the rules
pub ends_run : {I S : Type 0} (K : Kind I) (V : Server S) (new : ℕ → I) (t : ClassTable) (o : Opening) (first : S) {es : List Event} {h : List (Entry I)} {s : State I} {x : S} {bs : List ℕ} → Ends K V new t o first es h s x bs → Run K o h s
ends_run K V new t o first (at_rest p _) = runs K V new t o first p
ends_run K V new t o first (given_up p _ _) = runs K V new t o first p

module _ {T I S : Type 0} {H : TagStore T} (K : Kind I) (V : Server S) (new : ℕ → I) {t : ClassTable} {o : Opening} {first : S} {es : List Event} {h : List (Entry I)} {bs : List ℕ} {p : Player T I S H K} (f : Follows K V new t o first es h bs p) where
  -- no turn is open
  pub rests : p.held ≡ None → Rests K V new t o first es h bs p
  rests none = record { valid = f.valid; table = f.table; ends = at_rest f.plays (unheld (turn_after h) p.held f.turn none); free = none; charged = f.charged }

  -- or the one that is open is given up
  pub gives_up : (u : Turn) → p.held ≡ Some u → (q : Player T I S H K) (bs' : List ℕ) (a : Answer) → Step K (state V p) (give_up (open_grant (grant_after h))) a (state V q) →
      Follows K V new t o first (es ++ GiveUp ∷ []) (entry (give_up (open_grant (grant_after h))) a ∷ h) bs' q →
      Rests K V new t o first es (entry (give_up (open_grant (grant_after h))) a ∷ h) bs' q
  gives_up u some q bs' a step next =
      let (v, is, _, _) = open_one K V new f u some in
      let taken = accepted_up K o (ran K V new f) v is a (state V q) (subst (λ g. Step K (state V p) (give_up g) a (state V q)) (ap (λ x. open_grant (service-grant x)) is) step) in
      let (d, closing) = closes K (state V p) (open_grant (grant_after h)) a (state V q) step taken in
      let none : turn_after (entry (give_up (open_grant (grant_after h))) a ∷ h) ≡ None = ap (λ a. turn_after (entry (give_up (open_grant (grant_after h))) a ∷ h)) closing in
      record {
        valid = next.valid;
        table = next.table;
        ends = given_up next.plays (ap is_some is) none;
        free = none_held (turn_after (entry (give_up (open_grant (grant_after h))) a ∷ h)) q.held next.turn none;
        charged = next.charged;
      }

module _ {T I S : Type 0} {H : TagStore T} (K : Kind I) (V : Server S) (new : ℕ → I) where
  -- a new player has played nothing
  starts : (d : Draft) (places : ℕ) (p : Player T I S H K) → room p.shelf ≡ places → Valid (opening d places (V.work p.link)) → p.tree.queue.table ≡ d.table →
      state V p ≡ fresh (opening d (room p.shelf) (V.work p.link)) → p.held ≡ None → ((k : ℕ) → charged_at p.charges k ≡ 0) →
      Follows K V new d.table (opening d places (V.work p.link)) p.link [] [] [] p
  starts d places p sized valid table opened free none = record {
    valid = valid;
    table = table;
    plays = subst (λ s. Plays K V new d.table (opening d places (V.work p.link)) p.link [] [] s p.link []) (sym (opened ∙ ap (λ n. fresh (opening d n (V.work p.link))) sized)) begun;
    turn = subst (HeldTurn None) (sym free) tt;
    charged = none;
  }

  -- it plays the events, and gives up a turn that is open then
  pub plays_out : (d : Draft) (places : ℕ) (tree : Tree T I H) (link : S) (charges : Charges) (sh : Shelf I K) → room sh ≡ places → Valid (opening d places (V.work link)) → tree.queue.table ≡ d.table →
      state_of tree sh (V.work link) ≡ fresh (opening d (room sh) (V.work link)) → ((k : ℕ) → charged_at charges k ≡ 0) →
      (es : List Event) (q r : Player T I S H K) (l m n : Listing) → Holds l [] → PlaysAll K V new (record { tree = tree; shelf = sh; link = link; held = None; charges = charges }) l es q m → Finishes K V new q m r n →
      (h : List (Entry I)) × ((bs : List ℕ) × Rests K V new d.table (opening d places (V.work link)) link es h bs r × Holds n bs)
  plays_out d places tree link charges sh sized valid table opened none es q r l m n z plays finishes =
      let o = opening d places (V.work link) in
      let f = starts d places (record { tree = tree; shelf = sh; link = link; held = None; charges = charges }) sized valid table opened refl none in
      let (h, (bs, g, y)) = plays d.table o link f z in
      finishes d.table o link es h bs g y

  -- what is written then is the listing of the trace
  pub lists : KindLaws K → (d : Draft) (places : ℕ) {first : S} {es : List Event} {h : List (Entry I)} {bs : List ℕ} {p : Player T I S H K} → Rests K V new d.table (opening d places (V.work first)) first es h bs p →
      Lists K V new places d first es (bs ++ sums p.tree.queue.table (charged_at p.charges) (class_count p.tree.queue.table))
  lists laws d places {first} {es} {h} {bs} {p} r = record {
    history = h;
    state = state V p;
    server = p.link;
    lines = bs;
    ends = r.ends;
    run = ends_run K V new d.table (opening d places (V.work first)) first r.ends;
    lawful = (lawful laws).kept (opening d places (V.work first)) r.valid h (state V p) (ends_run K V new d.table (opening d places (V.work first)) first r.ends);
    whole = ap (λ z. bs ++ z) (sums_same p.tree.queue.table d.table (charged_at p.charges) (λ k. charges (shape_of d.table) k h) r.table r.charged);
  }

-- a listing for which memory sufficed is what was to be written
pub written_out : (P : List ℕ → Type 0) (m : Listing) (bs : List ℕ) → Holds m bs → P bs → (r : Result (String Global) AllocError) → r ≡ m.text → IfOk r (λ out. P (string_bytes out))
written_out P m bs z p r same = by r (subst (λ x. IfOk x (λ text. string_bytes text ≡ bs)) (sym same) z)
  where
    by : (r : Result (String Global) AllocError) → IfOk r (λ text. string_bytes text ≡ bs) → IfOk r (λ out. P (string_bytes out))
    by (Ok text) is = subst P (sym is) p
    by (Err e) _ = tt
