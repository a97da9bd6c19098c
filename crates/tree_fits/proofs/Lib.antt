mod BlockLemmas
pub mod NamesLemmas
pub mod RisingLemmas
pub mod WalkLemmas
pub mod NodeTestLemmas
