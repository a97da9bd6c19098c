pub mod OtherKinds
