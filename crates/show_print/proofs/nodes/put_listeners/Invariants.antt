-- What the line has, with the listeners that are still to come, is what it is to have.
use Rattle.std.proofs.Common.{◌≡◌, ◌++◌, drop, map}
use Rattle.rt_language.specs.Lines.{spaced, listener_text}
use Rattle.show_print.proofs.nodes.put_listeners.Given as goal

abbrev pub invariant-loop-name : goal.invariant-loop-name
invariant-loop-name l = l.line ++ spaced (map listener_text (drop l.name-index l.listeners)) ≡ l.fn.line ++ spaced (map listener_text l.listeners)
