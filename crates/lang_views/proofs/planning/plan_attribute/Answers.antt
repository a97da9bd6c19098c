-- The slot of each kind of attribute.
use Rattle.lang_views.proofs.Views.{attribute-Static, attribute-Slot, attribute-Listener}
use Rattle.lang_views.proofs.planning.plan_attribute.Goals as goal

pub returns-in-Static : goal.returns-in-Static
returns-in-Static c = record { filled = λ rest. attribute-Static c.args.attribute c.in-Static._name c.in-Static._value c.args.fills.now rest c.in-Static.is }

pub returns-in_ok-push-in-Slot : goal.returns-in_ok-push-in-Slot
returns-in_ok-push-in-Slot c = record { filled = λ rest. attribute-Slot c.args.attribute c.in-Slot.name c.in-Slot.value c.args.fills.now c.push.new.self rest c.in-Slot.is c.in_ok-push-in-Slot.ensures.ok }

pub returns-in_ok-push-in-Listener : goal.returns-in_ok-push-in-Listener
returns-in_ok-push-in-Listener c =
    record { filled = λ rest. attribute-Listener c.args.attribute c.in-Listener.name c.in-Listener.action c.in-Listener.arguments c.args.fills.now c.push-in-Listener.new.self rest c.in-Listener.is c.in_ok-push-in-Listener.ensures.ok }
