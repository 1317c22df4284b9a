pub mod IntLaws
pub mod MemberLaw
pub mod SingleLaw
pub mod SumLaw
