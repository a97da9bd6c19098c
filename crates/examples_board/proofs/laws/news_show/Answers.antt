-- What the news' program answers in the present world.
use Rattle.std.proofs.Common.{ℕ, true, nat_lt, ◌≡◌, ◌∙◌, ap, subst}
use Rattle.std.specs.Prelude.{codes}
use Rattle.rt_author.specs.BodiesShow.{present_world}
use Rattle.rt_author.specs.Current.{KeepsAnswer}
use Rattle.rt_author.specs.Given.TheViews.{out-Given}
use Rattle.rt_author.specs.Lists.{nth}
use Rattle.rt_author.specs.Program.{begun, body_means}
use Rattle.rt_author.specs.Sequence.{go_on}
use Rattle.rt_author.specs.State.{values_of}
use Rattle.rt_author.specs.Tree.{Element}
use Rattle.rt_author.specs.Words.{rendered, tree_of}
use Rattle.rt_author.specs.World.{World}
use Rattle.examples_board.proofs.Shows.{by_hook}
use Rattle.examples_board.specs.Meaning.{BoardTypes, line, news, programs}
use Rattle.examples_board.specs.declared.parts.Cells.{Cells}
use Rattle.examples_board.specs.declared.parts.Component.{Component}
use Rattle.examples_board.specs.declared.parts.Component.TheVariants as components
use Rattle.examples_board.proofs.laws.news_show.Goals as goal

pub returns : goal.returns
unfolding go_on
returns k =
    λ w s tries n there current has.
    let cells : Cells = (out-Given Component Cells there.props).own in
    let v : World BoardTypes = present_world w there.last in
    let shows : KeepsAnswer there.last (body_means (news cells) v).answer there.scope.main_side.output =
    (k.bodies_show.ensures programs w current s there.scope there.last components.News there.props there.there there.called there.is_news).1 there.none_aside in
    let answered : (body_means (news cells) v).answer ≡ rendered (tree_of (line (codes "news"))) =
    by_hook v cells n (nth v.given.hooks 0) (begun {K = BoardTypes} true v.given.next) there.keeps
    (ap (λ (t : ℕ). nat_lt t v.given.next.cells) there.given ∙ there.drawn)
    (ap (λ (t : ℕ). (values_of w).cell t) there.given ∙ has) in
    subst (λ (a : Element BoardTypes). KeepsAnswer there.last a there.scope.main_side.output) answered shows
