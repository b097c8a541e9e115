mod Resources
