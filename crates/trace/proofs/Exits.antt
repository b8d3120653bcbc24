-- Results with their line, and what leaves the reader by a `?`.
use Rattle.std.proofs.Common.{◌≡◌, ℕ, ◌<◌, ◌≤◌, List, length, IsErrAnd, Ok, Err, Result, MatchResult, sym, subst}
use Rattle.std.specs.Prelude.{alloc_error}
use Rattle.std.proofs.lemmas.Result.{err_from_is_err_and, MatchResult-weaker}
use Rattle.base.specs.declared.refusal.Refusal.TheVariants.{TraceTooLong, BadFirstLine}
use Rattle.text.specs.declared.kind.Kind.{Kind}
use Rattle.text.specs.declared.lines.Lines.{Lines}
use Rattle.text.specs.Kinds.{Titled, Untitled}
use Rattle.trace.specs.declared.error.ReadError.{ReadError}
use Rattle.trace.specs.declared.error.ReadError.TheVariants.{Fault as faulty, NoMemory}
use Rattle.trace.specs.declared.fault.Fault.{Fault}
use Rattle.trace.specs.declared.fault.Misread.{Misread}
use Rattle.trace.specs.declared.trace.Trace.{Trace}
use Rattle.trace.specs.Faults.{misread, on, placed}
use Rattle.trace.specs.Traces.{Told, too_long, untitled, Wanting, Judged}
use Rattle.trace.proofs.Once.{told_once, told_not_written}

-- a result that tells the first fault, with its line
module _ {X : Type 0} (P : X → Type 0) (bs : List ℕ) (n : ℕ) where
  placed_told : (r : Result X Misread) → MatchResult r P (λ m. Told bs (on n m)) → MatchResult (placed n r) P (Told bs)
  placed_told (Ok x) h = h
  placed_told (Err m) h = h

  pub lined : (r : Result X Misread) (s : Result X Fault) → s ≡ placed n r → MatchResult r P (λ m. Told bs (on n m)) → MatchResult s P (Told bs)
  lined r s is h = rw is (placed_told r h)

-- .. as one on the length does, and one on the first line
pub length_told : {X : Type 0} (bs : List ℕ) (r : Result X Misread) → MatchResult r (λ _. length bs ≤ 32768) (λ m. (m ≡ misread TraceTooLong) × (32768 < length bs)) → MatchResult r (λ _. length bs ≤ 32768) (λ m. Told bs (on 0 m))
length_told bs r h = MatchResult-weaker r h (λ _ short. short) (λ m bad. subst (λ x. Told bs (on 0 x)) (sym bad.0) (too_long bad.1))

pub title_told : (bs : List ℕ) (r : Result (Kind × Lines) Misread) → length bs ≤ 32768 → MatchResult r (Titled bs) (λ m. (m ≡ misread BadFirstLine) × Untitled bs) → MatchResult r (Titled bs) (λ m. Told bs (on 1 m))
title_told bs r short h = MatchResult-weaker r h (λ _ titled. titled) (λ m bad. subst (λ x. Told bs (on 1 x)) (sym bad.0) (untitled short bad.1))

-- a fault that leaves the reader
pub exit : (bs : List ℕ) (out : Result Trace ReadError) (f : Fault) → IsErrAnd out (λ y. y ≡ faulty f) → Told bs f → Judged bs out
exit bs out f by told =
    let last = err_from_is_err_and out by in
    rw (last.1, last.2) (record { told = told; only = λ g there. told_once bs g f there told; none = λ t. told_not_written bs f t told })

-- want of memory that leaves the reader
pub exit_wanting : (bs : List ℕ) (out : Result Trace ReadError) → IsErrAnd out (λ y. y ≡ NoMemory alloc_error) → Wanting bs → Judged bs out
exit_wanting bs out by wanting =
    let last = err_from_is_err_and out by in
    rw (last.1, last.2) wanting
