-- How the code follows the rules, step by step.
pub mod Views
pub mod TableSteps
pub mod PageSteps
pub mod StrikeSteps
pub mod ScanSteps
pub mod ChooseSteps
pub mod SettleSteps
pub mod LookSteps
pub mod WithinLaws
pub mod LyingSteps
pub mod LowSteps
pub mod WalkSteps
pub mod RootSteps
pub mod RecordSteps
pub mod RefusalSteps
pub mod CallSteps
