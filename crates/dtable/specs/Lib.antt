pub mod Document
pub mod NameForm
pub mod Scope
pub mod RoleFile
pub mod PlanFile
pub mod Reading
