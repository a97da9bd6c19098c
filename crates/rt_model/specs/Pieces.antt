-- Pieces that worked rows share: a text of a document, a listener in an attribute slot.
use Rattle.std.specs.Prelude.{ℕ, None}
use Rattle.rt_model.specs.Lists.{Text}
use Rattle.rt_model.specs.Tree.{listener, Attribute}
use Rattle.rt_model.specs.Document.{DocText, Forest, leaf}
use Rattle.rt_model.specs.Small.{Doing, R}

-- a text of a document
abbrev pub text : ℕ → Text → Forest
text id words = leaf id (DocText words)

-- a listener of a scope, by its whole attribute name
abbrev pub on : ℕ → Text → Doing → Attribute R
on origin name doing = record { name = name; namespace = None; value = listener origin doing }
