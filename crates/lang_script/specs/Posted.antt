-- What a message of a source asks for.
use Rattle.rt_model.specs.Replay.{Post}
use Rattle.rt_language.specs.Meaning.{post_of}
use Rattle.lang_syntax.specs.Mirror as mirror
use Rattle.lang_syntax.specs.declared.source.PostSource.{PostSource}

-- what the message asks for
abbrev pub posted_of : PostSource → Post
posted_of post = post_of (mirror.post_of post)
