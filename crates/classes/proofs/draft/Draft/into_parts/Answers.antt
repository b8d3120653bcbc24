use Rattle.classes.proofs.Tables.{shape_sound}
use Rattle.classes.proofs.draft.Draft.into_parts.Goals as goal

pub returns-clause-sound : goal.returns-clause-sound
returns-clause-sound c = shape_sound c.args.self.table
