-- What a name means.
use Rattle.std.specs.Prelude.{ℕ, List}
use Rattle.classes.specs.declared.name.Name.{Name}

-- its bytes
abbrev pub text_of : Name → List ℕ
text_of n = n.text.bytes
