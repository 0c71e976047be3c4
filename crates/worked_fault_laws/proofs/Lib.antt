mod CheckRows
mod CycleLemmas
mod ElaborationRows
mod TextRows
mod PlanRows
mod PlanWays
