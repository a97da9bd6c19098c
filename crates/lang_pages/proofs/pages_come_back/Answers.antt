use Rattle.lang_pages.proofs.Put.{put_comes_back}
use Rattle.lang_pages.proofs.pages_come_back.Goals as goal

pub returns : goal.returns
returns c = put_comes_back
