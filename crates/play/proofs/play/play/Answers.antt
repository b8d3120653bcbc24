use Rattle.std.proofs.Common.{ℕ, List, IfOk, Ok, Err, string_bytes, Result, String, sym, subst}
use Rattle.std.specs.declared.alloc.AllocError.{AllocError}
use Rattle.std.specs.declared.alloc.Global.{Global}
use Rattle.items.specs.contracts.QuantumItem.TheImpl.{ghosts as QuantumItem}
use Rattle.items.specs.contracts.BlockItem.TheImpl.{ghosts as BlockItem}
use Rattle.trace.specs.Traces.{Judged}
use Rattle.play.specs.Listings.{link, Lists, Prints, faulty, quanta, blocks}
use Rattle.play.proofs.play.play.Goals as goal

-- what holds of a text that was made gives what is to hold of it
made_so : (P Q : List ℕ → Type 0) (r : Result (String Global) AllocError) → ((out : List ℕ) → P out → Q out) → IfOk r (λ out. P (string_bytes out)) → IfOk r (λ out. Q (string_bytes out))
made_so P Q (Ok text) f p = f _ p
made_so P Q (Err e) f p = tt

pub returns-in-Quantum : goal.returns-in-Quantum
returns-in-Quantum c =
    let t = c.in-Ok.field-0 in
    made_so (Lists QuantumItem link (λ n. record { task = 0; time = n }) 256 t.draft t.link c.as_slice-events.result.now) (Prints c.args.text.now) c.list.result
    (λ out l. quanta t out c.in-Ok.ensures c.in-Quantum.is (subst (λ es. Lists QuantumItem link (λ n. record { task = 0; time = n }) 256 t.draft t.link es out) c.as_slice-events.ensures.value l)) c.list.ensures

pub returns-in-Ok : goal.returns-in-Ok
returns-in-Ok c =
    let t = c.in-Ok.field-0 in
    made_so (Lists BlockItem link (λ n. record { first = 0; length = n }) 256 t.draft t.link c.as_slice-events.result.now) (Prints c.args.text.now) c.list-in-Block.result
    (λ out l. blocks t out c.in-Ok.ensures c.in-Block.is (subst (λ es. Lists BlockItem link (λ n. record { first = 0; length = n }) 256 t.draft t.link es out) c.as_slice-events.ensures.value l)) c.list-in-Block.ensures

pub returns-in-Err-Fault : goal.returns-in-Err-Fault
returns-in-Err-Fault c =
    let at = c.in-Err-Fault in
    let first = subst (λ e. Judged c.args.text.now (Err e)) at.field-0-is at.ensures in
    made_so _ (Prints c.args.text.now) c.format.result (λ out e. subst (Prints c.args.text.now) (sym e) (faulty at.fault first)) c.format.ensures.ok
