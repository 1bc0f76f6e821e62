-- The theorems that rest on each rule of recording, beside the definitions in specs/ that they speak of.
pub mod RecordLaws
pub mod AnswersKept
pub mod NeverEmpty
pub mod OldRuleTwo
pub mod WalkLaws
pub mod FromRoot
pub mod Book
