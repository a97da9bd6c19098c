pub mod Words
pub use Rattle.author_bodies.specs.Comes
pub use Rattle.author_bodies.specs.Bodies
pub use Rattle.author_bodies.specs.declared.bodied.Bodied
pub use Rattle.author_bodies.specs.declared.no_data.NoData
pub use Rattle.author_bodies.specs.declared.paged.Paged
pub use Rattle.author_carrying.specs.Carrying
pub use Rattle.author_given.specs.Same
pub use Rattle.author_given.specs.declared.props.Given
pub use Rattle.author_given.specs.declared.props.Inside
pub use Rattle.author_derived.specs.Derived
pub use Rattle.author_derived.specs.DerivedShow
pub use Rattle.author_derived.specs.Trees as DerivedTrees
pub use Rattle.author_derived.specs.declared.paged.DerivedPaged
pub use Rattle.author_deriving.specs.Task as MemoTasks
pub use Rattle.author_deriving.specs.declared.task.Load
pub use Rattle.author_deriving.specs.declared.task.MemoTask
pub use Rattle.author_formulas.specs.Formulas
pub use Rattle.author_formulas.specs.Looking
pub use Rattle.author_formulas.specs.Memos
pub use Rattle.author_signals.specs.Signals
pub use Rattle.author_signals.specs.declared.signal.Pair
pub use Rattle.author_signals.specs.declared.signal.Signal
pub use Rattle.author_pieces.specs.Answered
pub use Rattle.author_pieces.specs.Breaches
pub use Rattle.author_pieces.specs.Filling
pub use Rattle.author_pieces.specs.Had
pub use Rattle.author_pieces.specs.Markup
pub use Rattle.author_pieces.specs.Numbering
pub use Rattle.author_pieces.specs.declared.attrs.Attrs
pub use Rattle.author_pieces.specs.declared.pieces.Piece
pub use Rattle.author_pieces.specs.declared.shapes.Shape
pub use Rattle.author_pieces.specs.declared.shapes.ShapeAttribute
pub use Rattle.author_calls.specs.Answers
pub use Rattle.author_calls.specs.Calls
pub use Rattle.author_calls.specs.Hooks
pub use Rattle.author_calls.specs.Steps
pub use Rattle.author_calls.specs.Turn
pub use Rattle.run_records.specs.Enter
pub use Rattle.run_records.specs.Kept
pub use Rattle.run_records.specs.Records
pub use Rattle.run_records.specs.World as Worlds
pub use Rattle.run_records.specs.declared.faults.Counter
pub use Rattle.run_records.specs.declared.faults.CxFault
pub use Rattle.author_programs.specs.Author
pub use Rattle.author_programs.specs.Came
pub use Rattle.author_programs.specs.Cells
pub use Rattle.author_programs.specs.Contexts
pub use Rattle.author_programs.specs.First
pub use Rattle.author_programs.specs.Kinds
pub use Rattle.author_programs.specs.Means
pub use Rattle.author_programs.specs.Pages
pub use Rattle.author_programs.specs.Present
pub use Rattle.author_programs.specs.Reads
pub use Rattle.author_programs.specs.Sequence
pub use Rattle.author_programs.specs.Shows
pub use Rattle.law_elm.specs.ErrorsStayAway
pub use Rattle.law_elm.specs.NoErrors
pub use Rattle.law_elm.specs.Programs
pub use Rattle.law_elm.specs.RootShows
pub use Rattle.law_elm.specs.Roots
pub use Rattle.law_elm.specs.Safe
pub use Rattle.law_kinds.specs.OtherKinds
pub use Rattle.law_lasting.specs.CellsLast
pub use Rattle.law_lasting.specs.ChildrenLast
pub use Rattle.law_lasting.specs.ComponentsLast
pub use Rattle.law_lasting.specs.NumbersLast
pub use Rattle.law_lasting.specs.OneFinish
pub use Rattle.law_minding.specs.Coming
pub use Rattle.law_minding.specs.Held
pub use Rattle.law_minding.specs.Numbering as NumbersDrawn
pub use Rattle.law_minding.specs.Sessions
pub use Rattle.law_minding.specs.Unpolled
pub use Rattle.law_minding.specs.Waking
pub use Rattle.law_pages.specs.Keeps
pub use Rattle.law_pages.specs.OnePage
pub use Rattle.law_pages.specs.Updates
pub use Rattle.law_pages.specs.Writes as ListenersWrite
pub use Rattle.law_reduce.specs.Reduces
pub use Rattle.law_reduce.specs.Folds
pub use Rattle.law_reduce.specs.Shows as ReducedShows
pub use Rattle.law_reduce.specs.Reads as ReadsStay
pub use Rattle.law_reduce.specs.Kept as CellsKept
pub use Rattle.law_reduce.specs.Later as CallsLater
pub use Rattle.law_reduce.specs.Live as LiveStay
pub use Rattle.law_reduce.specs.RootStays
pub use Rattle.law_reduce.specs.Runs as RunsGiven
pub use Rattle.law_reduce.specs.Values as ShowsValues
pub use Rattle.law_reduce.specs.Elm
pub use Rattle.law_reduce.specs.Bodies as BodiesShow
pub use Rattle.law_behavior.specs.Along
pub use Rattle.law_moves.specs.Moves
pub use Rattle.tree_mirror.specs.Mirror
pub use Rattle.tree_mirror.specs.Sealed
pub use Rattle.tree_nodes.specs.Shown
pub use Rattle.tree_nodes.specs.declared.attribute.Attribute
pub use Rattle.tree_nodes.specs.declared.attribute.AttributeValue
pub use Rattle.tree_nodes.specs.declared.error.CapturedError
pub use Rattle.tree_nodes.specs.declared.error.RenderError
pub use Rattle.tree_nodes.specs.declared.error.SuspendedFuture
pub use Rattle.tree_nodes.specs.declared.template.TemplateAttribute
pub use Rattle.tree_nodes.specs.declared.template.TemplateNode
pub use Rattle.tree_nodes.specs.declared.template.TemplateParts
pub use Rattle.tree_nodes.specs.declared.vnode.DynamicNode
pub use Rattle.tree_nodes.specs.declared.vnode.ErrorHandler
pub use Rattle.tree_nodes.specs.declared.vnode.Fallback
pub use Rattle.tree_nodes.specs.declared.vnode.VComponent
pub use Rattle.tree_nodes.specs.declared.vnode.VNode
pub use Rattle.rt_cells.specs.declared.contexts.ReactiveContext
pub use Rattle.rt_model.specs.Asides
pub use Rattle.rt_model.specs.Bodies as BodiesRan
pub use Rattle.rt_model.specs.Causes
pub use Rattle.rt_model.specs.Commands
pub use Rattle.rt_model.specs.Current
pub use Rattle.rt_model.specs.Document as Edits
pub use Rattle.rt_model.specs.Finished
pub use Rattle.rt_model.specs.Headline
pub use Rattle.rt_model.specs.Heard
pub use Rattle.rt_model.specs.Laws
pub use Rattle.rt_model.specs.Lists
pub use Rattle.rt_model.specs.Merge
pub use Rattle.rt_model.specs.Next
pub use Rattle.rt_model.specs.OneLog
pub use Rattle.rt_model.specs.Program
pub use Rattle.rt_model.specs.Queries
pub use Rattle.rt_model.specs.Ran
pub use Rattle.rt_model.specs.Removal
pub use Rattle.rt_model.specs.Rendering
pub use Rattle.rt_model.specs.Replay
pub use Rattle.rt_model.specs.Reports
pub use Rattle.rt_model.specs.Run
pub use Rattle.rt_model.specs.Sentences
pub use Rattle.rt_model.specs.State
pub use Rattle.rt_model.specs.Told
pub use Rattle.rt_model.specs.Tree
pub use Rattle.rt_model.specs.View
pub use Rattle.rt_model.specs.World
