-- The headline of the session, and the law of its memos.
use Rattle.std.proofs.lemmas.Result.{IfOk-weaker}
use Rattle.rt_memo.proofs.keeping.memo_session.Goals as goal

pub returns-clause-memos : goal.returns-clause-memos
returns-clause-memos g c =
    let app = c.args.app in
    IfOk-weaker c.session.result _ _
    (
    λ reports finished.
    c.sessions_keep_memos.ensures (g.A.App.meaning app) (g.A.Memos.HasMemo.formulas (g.A.MemoApp.memos app)) g.A.Memos.HasMemo.state
    (g.met.A.App.lawful app) (g.met.A.Memos.HasMemo.look (g.A.MemoApp.memos app)) (g.met.A.MemoApp.polls app) _ _ _ _ _ finished.headline
    )
    c.session.ensures.headline
