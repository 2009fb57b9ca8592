use Rattle.columns.proofs.cursor.Cursor.text.Goals as goal

pub returns : goal.returns
returns c = λ seen. rw c.rule_at.ensures at (c.ruled.ensures seen)
