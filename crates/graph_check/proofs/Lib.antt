mod ArcChains
mod ColumnFlags
mod FirstMembers
mod GraphWorlds
mod Links
mod Numbers
mod SearchSteps
