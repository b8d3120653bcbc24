-- What is left of a quantum.
use Rattle.std.specs.Prelude.{cond, ℕ, ◌-◌, leb}
use Rattle.items.specs.declared.Quantum.{Quantum}

-- the same task with the time that is left; above its time, where it may not stop, the quantum as it is
abbrev pub quantum_left : Quantum → ℕ → Quantum
quantum_left q d = cond (leb d q.time) (record { task = q.task; time = q.time - d }) q
