pub mod Confluence
pub mod Everything
pub mod WorkedDocuments
pub mod WorkedPayloads
