-- What no history of calls breaks. Each law speaks of the moment after a history; every moment is the end of one. Assumes nothing.
use Rattle.std.specs.Prelude.{◌≡◌, ℕ, ◌+◌, ◌*◌, ◌<◌, ◌≤◌, List, ◌∷◌, ◌++◌, map, Some, ◌≢◌}
use Rattle.std.specs.List.{AllByRecursion}
use Rattle.rules.specs.Shape.{Shape}
use Rattle.rules.specs.Kind.{Kind}
use Rattle.rules.specs.State.{Opening, Valid, Tags, State}
use Rattle.rules.specs.Rules.{Grant, Call, Answer, Step}
use Rattle.rules.specs.History.{Entry, entry, Run, open_work, charges, between, largest, grant_after, given, turns_given, taken, Always, Sometime, Waiting, waiting, Throughout}
use Rattle.rules.specs.Alone.{alone, Beside}

-- f and m are different children of one node
pub record Siblings (t : Shape) (f m : ℕ) : Type 0 where
  pub first : 0 < f
  pub second : 0 < m
  pub f_known : f < t.count
  pub m_known : m < t.count
  pub apart : f ≡ m → ⊥
  pub together : t.parent f ≡ t.parent m

module _ {I : Type 0} (K : Kind I) where
  -- between any two moments of h at and between which f has work, a sibling m is charged no more than its share by weight, to within one
  -- largest charge of each
  abbrev pub Fair : Opening → List (Entry I) → Type 0
  Fair o h = (f m : ℕ) → Siblings o.shape f m → (later after before : List (Entry I)) → h ≡ later ++ (after ++ before) → Throughout K o.shape f after before →
      between o.shape m after before * o.weight f
      ≤ between o.shape f after before * o.weight m
      + (largest o.shape f (after ++ before) * o.weight m + largest o.shape m (after ++ before) * o.weight f)

  -- the own calls of g, played alone on a new tree that has it for its root, come out the same
  abbrev pub Isolated : Opening → List (Entry I) → State I → ℕ → Type 0
  Isolated o h s g = (house work : ℕ) → (a : State I) × Beside K o g (alone o g house work) h s a

  -- an item in a leaf: its cost now is the cost it came with less the work of its ended turns, and that work has not reached it
  abbrev pub Unfinished : Waiting I → Type 0
  Unfinished w = (K.costs w.item + w.ended ≡ w.cost) × (w.ended < w.cost)

  -- the server's work since the opening is all charged or in the open turn; each lane holds the items that are in that leaf, none of them done
  pub record Conserved (o : Opening) (h : List (Entry I)) (s : State I) : Type 0 where
    pub work : s.work ≡ o.work + charges o.shape 0 h + open_work h
    pub lanes : (l : ℕ) → s.lane l ≡ map (λ w. w.item) (waiting K l h)
    pub unfinished : (l : ℕ) → AllByRecursion Unfinished (waiting K l h)

-- no start tag, finish tag or virtual time passes n
abbrev pub Within : Tags → ℕ → Type 0
Within t n = (k : ℕ) → (t.start k ≤ n) × (t.finish k ≤ n) × (t.virtual k ≤ n)

module _ {I : Type 0} where
  -- no tag passes 720,720 times the meter, and the meter is the sum of all charges
  pub record Metered (o : Opening) (h : List (Entry I)) (s : State I) : Type 0 where
    pub tags : Within s.tags (720720 * s.meter)
    pub meter : s.meter ≡ charges o.shape 0 h

  -- each accepted pulse, ending and giving up names the grant that the open turn's dispatch answered, and that bears the tree's house number;
  -- the grants answered bear it too and are numbered 1, 2, 3 and so on, so none is answered twice
  pub record Keyed (o : Opening) (h : List (Entry I)) : Type 0 where
    pub named : Always (λ e before. (g : Grant) → taken e ≡ Some g → (grant_after before ≡ Some g) × (g.house ≡ o.house)) h
    pub numbered : Always (λ e before. (g : Grant) → given e ≡ Some g → g ≡ record { house = o.house; turn = turns_given before + 1 }) h
    pub once : Always (λ e before. (g : Grant) → given e ≡ Some g → Sometime (λ e' _. given e' ≡ Some g) before → ⊥) h

module _ {I : Type 0} (K : Kind I) where
  -- the laws, at the moment after h, in the state that it led to
  pub record Kept (o : Opening) (h : List (Entry I)) (s : State I) : Type 0 where
    pub fair : Fair K o h
    pub isolated : (g : ℕ) → g < o.shape.count → Isolated K o h s g
    pub conserved : Conserved K o h s
    pub metered : Metered o h s
    pub keyed : Keyed o h

  -- no grant answered in a history of one house is taken in a history of another
  abbrev pub Foreign : Type 0
  Foreign = (o o' : Opening) → (o.house ≢ o'.house) → (h h' : List (Entry I)) (s s' : State I) → Run K o h s → Run K o' h' s' →
      (g : Grant) → Sometime (λ e _. given e ≡ Some g) h → Sometime (λ e _. taken e ≡ Some g) h' → ⊥

  -- every history of calls on a newly opened tree keeps the laws
  pub record Lawful : Type 0 where
    pub kept : (o : Opening) → Valid o → (h : List (Entry I)) (s : State I) → Run K o h s → Kept o h s
    pub foreign : Foreign

  -- the same at one call: whatever history led to s goes on to s' with this call and this answer, and keeps the laws
  abbrev pub Lasts : State I → Call I → Answer → State I → Type 0
  Lasts s c a s' = (o : Opening) → Valid o → (h : List (Entry I)) → Run K o h s → Run K o (entry c a ∷ h) s' × Kept o (entry c a ∷ h) s'

  -- every call does so
  abbrev pub Onward : Type 0
  Onward = (s : State I) (c : Call I) (a : Answer) (s' : State I) → Step K s c a s' → Lasts s c a s'
