-- That messages are a merge of posts says the same of code and of the definitions.
use Rattle.std.specs.Prelude.{List, map}
use Rattle.rt_inbox.specs.Merge.{IsMerge}
use Rattle.rt_inbox.specs.declared.message.Msg.{Msg}
use Rattle.rt_inbox.specs.declared.message.Post.{Post}
use Rattle.rt_model.specs.Merge as model
use Rattle.run_reports.specs.Seen.{message_of, post_of}

-- whatever the messages and the posts
abbrev pub MergesAgree : Type 0
MergesAgree =
    (messages : List Msg) (posts : List (List Post))
    → IsMerge messages posts
    → model.IsMerge (map message_of messages) (map (map post_of) posts)
